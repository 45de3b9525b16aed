use Rattle.cilk_cells.proofs.Firsts.{Standing}
use Rattle.cilk_cells.proofs.view_race.first_view_read.Given as goal

abbrev pub invariant-loop-index : goal.invariant-loop-index
invariant-loop-index l = Standing l.trace l.classes l.index l.strand l.firsts
