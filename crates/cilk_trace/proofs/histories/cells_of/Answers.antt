use Rattle.std.proofs.Common.{arith}
use Rattle.std.proofs.lemmas.Nat.{one_shl}
use Rattle.cilk_trace.proofs.histories.cells_of.Goals as goal

pub returns : goal.returns
returns c = one_shl c.args.shift 64 (omega arith)
