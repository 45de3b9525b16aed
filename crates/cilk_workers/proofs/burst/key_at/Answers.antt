use Rattle.std.proofs.Common.{◌≡◌, Some, None, sym, ◌∙◌}
use Rattle.cilk_workers.proofs.burst.key_at.Goals as goal

pub returns-in-Some-clause-child : goal.returns-in-Some-clause-child
returns-in-Some-clause-child c = λ k is. let z : Some c.in-Some.child ≡ Some k = sym c.in-Some.is ∙ (c.resumed_by.ensures k).1 is in cc z

pub returns-in-Some-clause-own : goal.returns-in-Some-clause-own
returns-in-Some-clause-own c = λ other. absurd (other c.in-Some.child ((c.resumed_by.ensures c.in-Some.child).0 c.in-Some.is))

pub returns-in-None-clause-child : goal.returns-in-None-clause-child
returns-in-None-clause-child c = λ k is. absurd (let z : None ≡ Some k = sym c.in-None.is ∙ (c.resumed_by.ensures k).1 is in cc z)
