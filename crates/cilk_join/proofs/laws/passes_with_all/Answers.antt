use Rattle.std.proofs.Common.{◌∷◌}
use Rattle.cilk_join.specs.Histories.{Arrives}
use Rattle.cilk_join.proofs.Histories.{all_arrived, answers}
use Rattle.cilk_join.proofs.laws.passes_with_all.Goals as goal

pub returns-clause-passes : goal.returns-clause-passes
returns-clause-passes c = all_arrived

pub returns-clause-answer : goal.returns-clause-answer
returns-clause-answer c = λ steps p last h answer left a. answers (Arrives p last ∷ steps) h answer left a
