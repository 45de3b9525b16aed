use Rattle.std.proofs.Common.{◌≡◌, take}
use Rattle.cilk_frames.proofs.outcome.copied_values.Given as goal

abbrev pub invariant-each : goal.invariant-each
invariant-each l = l.list.items ≡ take l.value-index l.values
