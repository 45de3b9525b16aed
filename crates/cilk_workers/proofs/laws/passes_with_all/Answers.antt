use Rattle.cilk_workers.proofs.Histories.{answers, laws}
use Rattle.cilk_workers.proofs.laws.passes_with_all.Goals as goal

pub returns-clause-laws : goal.returns-clause-laws
returns-clause-laws c = laws

pub returns-clause-answer : goal.returns-clause-answer
returns-clause-answer c = answers
