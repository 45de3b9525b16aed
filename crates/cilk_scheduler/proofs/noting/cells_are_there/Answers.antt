use Rattle.cilk_scheduler.proofs.Noted.{read_there, result_there, write_there}
use Rattle.cilk_scheduler.proofs.noting.cells_are_there.Goals as goal

pub returns-clause-read : goal.returns-clause-read
returns-clause-read c = read_there

pub returns-clause-write : goal.returns-clause-write
returns-clause-write c = write_there

pub returns-clause-result : goal.returns-clause-result
returns-clause-result c = result_there
