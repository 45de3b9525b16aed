use Rattle.std.proofs.Common.{ℕ, List, Option, ap, subst, sym, ◌∙◌}
use Rattle.cilk_commands.proofs.Reading.{takes_same}
use Rattle.cilk_commands.specs.Streams.{TakesAtMost}
use Rattle.cilk_commands.specs.declared.streams.TheConstants.{MAX_READ}
use Rattle.cilk_tool.specs.Serving.{Helped, Others, Threads}
use Rattle.cilk_tool.proofs.serving.serve.Goals as goal

pub returns-then-is_threads-clause-shown : goal.returns-then-is_threads-clause-shown
returns-then-is_threads-clause-shown g c =
    Threads (sym c.is_threads.ensures ∙ c.if-is_threads.true) c.serve_threads.ensures.served c.serve_threads.ensures.explained

pub returns-then-is_helped-clause-shown : goal.returns-then-is_helped-clause-shown
returns-then-is_helped-clause-shown g c =
    Helped (sym c.is_threads.ensures ∙ c.if-is_threads.false) (sym c.is_helped.ensures ∙ c.if-is_helped.true) c.serve_check.ensures.served
    c.serve_check.ensures.explained

pub returns-else-is_helped-clause-shown : goal.returns-else-is_helped-clause-shown
returns-else-is_helped-clause-shown g c =
    Others (sym c.is_threads.ensures ∙ c.if-is_threads.false) (sym c.is_helped.ensures ∙ c.if-is_helped.false) c.serve_explained.ensures.served
    c.serve_explained.ensures.measured c.serve_explained.ensures.scheduled c.serve_explained.ensures.settles c.serve_explained.ensures.explained
    c.serve_explained.ensures.about c.serve_explained.ensures.settled

pub returns-then-is_threads-clause-most : goal.returns-then-is_threads-clause-most
returns-then-is_threads-clause-most g c =
    subst (λ (o : Option (List ℕ)). TakesAtMost MAX_READ (g.R.CountedRead.remaining c.args.input.now) o) (sym (ap g.R.CountedRead.remaining c.serve_threads.ensures.untouched))
    (takes_same MAX_READ (g.R.CountedRead.remaining c.args.input.now))

pub returns-then-is_helped-clause-most : goal.returns-then-is_helped-clause-most
returns-then-is_helped-clause-most g c =
    subst (λ (o : Option (List ℕ)). TakesAtMost MAX_READ (g.R.CountedRead.remaining c.args.input.now) o) (sym (ap g.R.CountedRead.remaining c.serve_check.ensures.untouched))
    (takes_same MAX_READ (g.R.CountedRead.remaining c.args.input.now))
