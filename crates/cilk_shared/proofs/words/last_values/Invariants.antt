use Rattle.std.proofs.Common.{◌≡◌, ℕ, pos, ◌<◌, ◌≤◌, vec_len, get_or}
use Rattle.std.specs.Prelude.{vec_capacity}
use Rattle.std.specs.Int.{cast_signed, w64}
use Rattle.std.specs.Slots.{slots_items}
use Rattle.cilk_shared.proofs.words.last_values.Given as goal

abbrev pub invariant-loop-cell : goal.invariant-loop-cell
invariant-loop-cell l =
    (vec_len l.values ≡ l.cell) × (l.cells ≤ vec_capacity l.values)
    × ((k : ℕ) → k < l.cell → get_or l.values.items k (pos 0) ≡ cast_signed w64 (get_or (slots_items l.closed.words) k 0))
