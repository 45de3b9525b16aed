use Rattle.std.proofs.Common.{ap, length, ◌∙◌}
use Rattle.cilk_checker.specs.Judging.{meant}
use Rattle.cilk_commands.specs.Every.{fixed_from}
use Rattle.cilk_oblivious.specs.Cursors.{hidden_of}
use Rattle.cilk_commands.proofs.Claims.{holds, replied}
use Rattle.cilk_commands.proofs.every.settled.Goals as goal

pub returns-then-not-is_on_every-clause-reply : goal.returns-then-not-is_on_every-clause-reply
returns-then-not-is_on_every-clause-reply c =
    replied (meant c.args.program.now) c.args.input.now (hidden_of c.args.hidden.now) c.args.every c.requires _
    c.in_ok-reply.ensures

pub returns-clause-reply : goal.returns-clause-reply
returns-clause-reply c =
    replied (meant c.args.program.now) c.args.input.now (hidden_of c.args.hidden.now) c.args.every c.requires _
    c.in_ok-reply.ensures

pub returns-clause-claim : goal.returns-clause-claim
returns-clause-claim c =
    holds (meant c.args.program.now) c.args.input.now (hidden_of c.args.hidden.now) c.args.every c.requires _
    c.in_ok-reply.ensures _ c.if-not-is_on_every.false
    (ap length c.as_slice-count.ensures.value) (c.in_ok-fixed.ensures ∙ ap (fixed_from (hidden_of c.args.hidden.now) 0) c.as_slice.ensures.value)
