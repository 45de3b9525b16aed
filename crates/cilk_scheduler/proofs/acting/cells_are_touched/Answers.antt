use Rattle.cilk_scheduler.proofs.CellEvents.{reads, results, writes}
use Rattle.cilk_scheduler.proofs.acting.cells_are_touched.Goals as goal

pub returns-clause-read : goal.returns-clause-read
returns-clause-read c = reads

pub returns-clause-write : goal.returns-clause-write
returns-clause-write c = writes

pub returns-clause-result : goal.returns-clause-result
returns-clause-result c = results
