use Rattle.std.proofs.Common.{refl}
use Rattle.cilk_commands.proofs.TraceReread.{kept_read}
use Rattle.cilk_commands.proofs.trace_pieces.Pieces.reserve.Goals as goal

pub returns-clause-read : goal.returns-clause-read
returns-clause-read c = λ text ls r. kept_read text ls c.args.self.now _ refl c.reserve.ensures.ahead c.reserve.ensures.fault c.reserve.ensures.returned r
