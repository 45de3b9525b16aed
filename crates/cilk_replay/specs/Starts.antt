-- Where a range of positions begins.
use Rattle.std.specs.Prelude.{◌≡◌, ℕ, ◌<◌, ◌≤◌, Some}
use Rattle.cilk_types.specs.declared.event.Event.TheVariants.{Sync}
use Rattle.cilk_tree.specs.Columns.{IsSpawnOf}
use Rattle.cilk_tree.specs.declared.event_order.EventOrder.{EventOrder}
use Rattle.cilk_tree.specs.Reach.{Among}
use Rattle.cilk_tree.specs.Word.{event, predecessors_of, resume, word_step}
use Rattle.cilk_shared.specs.Rule.{IsStart, Whole}

-- A range begins at a start, and has the immediate predecessors of each of its events except those
-- of `resume`s after spawns. If the `resume` after a spawn comes right after it, it has the spawn: it
-- doesn't begin inside the spawned child.
abbrev pub RangesHoldSpawns : EventOrder → Type 0
RangesHoldSpawns s = (a b k : ℕ) → Whole s a b → IsStart s a → a < b → word_step s b ≡ resume k → a ≤ k

-- a range that begins at a begins at the `resume` after a spawn of the block that ends with the `sync`
-- at q
abbrev pub BeginsInBlock : EventOrder → ℕ → ℕ → Type 0
BeginsInBlock s a q = (k : ℕ) × (word_step s a ≡ resume k) × IsSpawnOf s q k

-- If a range has come to a `sync`, and a child that the `sync` awaits ended before the range, then the
-- range begins in that block: it doesn't begin inside a child.
abbrev pub RangesBeginInBlocks : EventOrder → Type 0
RangesBeginInBlocks s = (a q e : ℕ) → Whole s a q → IsStart s a → a < q → event s q ≡ Some Sync → Among e (predecessors_of s q) → e < a → BeginsInBlock s a q
