use Rattle.std.proofs.Common.{sym}
use Rattle.cilk_plan.proofs.Naming.{end_last, end_none}
use Rattle.cilk_plan.proofs.planning.end_of.Goals as goal

pub returns-in-Some : goal.returns-in-Some
returns-in-Some c = sym (end_last c.args.first c.args.frames.now c.in-Some.frame.now (sym c.in-Some.ensures.value))

pub returns-in-None : goal.returns-in-None
returns-in-None c = sym (end_none c.args.first c.args.frames.now (sym c.in-None.ensures.value))
