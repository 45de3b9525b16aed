use Rattle.std.proofs.Common.{arith}
use Rattle.cilk_commands.proofs.TraceReread.{begun}
use Rattle.cilk_commands.proofs.trace_pieces.Pieces.new.Goals as goal

pub returns : goal.returns
returns c = begun _ (omega arith) c.new.ensures.text c.new.ensures.fault c.new.ensures.returned
