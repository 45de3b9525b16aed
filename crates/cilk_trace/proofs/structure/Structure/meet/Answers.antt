use Rattle.std.proofs.Common.{ap, arith, length}
use Rattle.cilk_trace.specs.Structures.{Noted}
use Rattle.cilk_trace.proofs.Results.{if_ok}
use Rattle.cilk_trace.proofs.structure.Structure.meet.Goals as goal

pub returns-in-Spawned-clause-too_many : goal.returns-in-Spawned-clause-too_many
returns-in-Spawned-clause-too_many c = if_ok c.close.result c.close.ensures.not_many (λ p h e. absurd (h e))

pub returns-in-Called-clause-too_many : goal.returns-in-Called-clause-too_many
returns-in-Called-clause-too_many c = if_ok c.close-in-Called.result c.close-in-Called.ensures.not_many (λ p h e. absurd (h e))

pub returns-in-End-clause-too_many : goal.returns-in-End-clause-too_many
returns-in-End-clause-too_many c = if_ok c.end.result c.end.ensures.not_many (λ p h e. absurd (h e))

pub returns-in-Enter-clause-few : goal.returns-in-Enter-clause-few
returns-in-Enter-clause-few c = if_ok c.enter.result c.enter.ensures (λ p h e. let v = ap (λ (n : Noted). length n.marks) c.self.view_is in omega (arith, v))

pub returns-in-Spawned-clause-few : goal.returns-in-Spawned-clause-few
returns-in-Spawned-clause-few c = if_ok c.close.result c.close.ensures.not_many (λ p h e. let v = ap (λ (n : Noted). length n.marks) c.self.view_is in omega (arith, v))

pub returns-in-Called-clause-few : goal.returns-in-Called-clause-few
returns-in-Called-clause-few c = if_ok c.close-in-Called.result c.close-in-Called.ensures.not_many (λ p h e. let v = ap (λ (n : Noted). length n.marks) c.self.view_is in omega (arith, v))

pub returns-in-End-clause-few : goal.returns-in-End-clause-few
returns-in-End-clause-few c = if_ok c.end.result c.end.ensures.not_many (λ p h e. let v = ap (λ (n : Noted). length n.marks) c.self.view_is in omega (arith, v))
