use Rattle.cilk_join.proofs.Cuts.{parts_are_few}
use Rattle.cilk_join.proofs.Histories.{holds}
use Rattle.cilk_join.proofs.laws.rows_are_of_pieces.Goals as goal

pub returns-clause-runs : goal.returns-clause-runs
returns-clause-runs c = λ steps h. let state = holds steps h in state.row_is

pub returns-clause-parts : goal.returns-clause-parts
returns-clause-parts c = λ j. let r = j.row in parts_are_few r.run r.waits
