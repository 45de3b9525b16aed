use Rattle.std.proofs.Common.{◌≡◌, length, take}
use Rattle.cilk_frames.proofs.operands.Operands.again.Given as goal

abbrev pub invariant-each : goal.invariant-each
invariant-each l = (length l.items.items ≡ l.total) × (take l.number l.items.items ≡ take l.number l.words)
