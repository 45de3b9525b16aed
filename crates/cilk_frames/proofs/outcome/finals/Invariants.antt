use Rattle.std.proofs.Common.{◌≡◌, ◌≤◌, ℕ, take}
use Rattle.cilk_monoid.specs.declared.kind.MonoidKind.{MonoidKind}
use Rattle.cilk_hypermap.specs.Hypermap.{value_in}
use Rattle.cilk_program.specs.SerialRun.{global_reducer}
use Rattle.cilk_frames.specs.Leaving.{finals_of}
use Rattle.cilk_frames.proofs.outcome.finals.Given as goal

abbrev pub invariant-each : goal.invariant-each
invariant-each l = (l.list.items ≡ finals_of l.fn.views 0 (take l.number l.kinds))
    × ((j : ℕ) (k : MonoidKind) → l.number ≤ j → value_in l.views k (global_reducer j) ≡ value_in l.fn.views k (global_reducer j))
