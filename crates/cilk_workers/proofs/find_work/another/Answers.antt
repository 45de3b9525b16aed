use Rattle.cilk_workers.proofs.Stolen.{after_none}
use Rattle.cilk_workers.proofs.find_work.another.Goals as goal

pub returns-in-Some : goal.returns-in-Some
returns-in-Some g c = (c.in-Some.ensures.rule.0, after_none _ _ c.in-Some.task _ c.each.invariant.0 c.in-Some.ensures.rule.1)
