use Rattle.cilk_cells.proofs.Pass.{Standing}
use Rattle.cilk_cells.proofs.race.first_race.Given as goal

abbrev pub invariant-loop-index : goal.invariant-loop-index
invariant-loop-index l = Standing l.trace l.labels l.index l.strand l.hebrew l.histories.cells.items
