use Rattle.std.proofs.Common.{false, inl, inr, refl, subst}
use Rattle.cilk_join.specs.Joins.{MayArrive}
use Rattle.cilk_join.specs.Waits.{shown}
use Rattle.cilk_schedule.proofs.ending.may_bring.Goals as goal

pub returns-then-awaits-clause-yes : goal.returns-then-awaits-clause-yes
returns-then-awaits-clause-yes c = λ t. (c.in-Some.join, c.in-Some.is, subst (λ j. MayArrive (shown j) c.args.key false) c.deref.ensures (inl (refl, c.awaits.ensures.0 c.if-awaits.true)))

pub returns-else-awaits-clause-yes : goal.returns-else-awaits-clause-yes
returns-else-awaits-clause-yes c = λ t. (c.in-Some.join, c.in-Some.is, subst (λ j. MayArrive (shown j) c.args.key false) c.deref-else-awaits.ensures (inr (c.fresh.ensures.0 t)))
