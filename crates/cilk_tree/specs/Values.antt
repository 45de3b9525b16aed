-- The values of an event order.
use Rattle.std.specs.Prelude.{◌≡◌, ℕ, suc, ◌-◌, ◌<◌, ℤ, pos, List, length, Some, slice_index_or, FitsSigned}
use Rattle.std.specs.Int.{w64}
use Rattle.cilk_types.specs.declared.event.Event.TheVariants.{Read, Write}
use Rattle.cilk_tree.specs.Sources.{last_write}
use Rattle.cilk_tree.specs.declared.event_order.EventOrder.{EventOrder}
use Rattle.cilk_tree.specs.Word.{event}
use Rattle.cilk_tree.specs.Runs.{IsAsked, IsFollowed}

-- v is the value of the cell after the first n events: that of its last write among them, or its
-- opening value
pub record HasValue (s : EventOrder) (cell n : ℕ) (v : ℤ) : Type 0 where
  pub opened : last_write s.events cell n ≡ 0 → v ≡ slice_index_or s.opening cell (pos 0)
  pub written : (q : ℕ) → last_write s.events cell n ≡ suc q → event s (suc q) ≡ Some (Write cell v)

-- The properties of the values, up to where the frames follow the event order. Only these change on
-- another input.
pub record HasValues (s : EventOrder) : Type 0 where
  pub begins : IsAsked s 1
  pub reads : (p cell : ℕ) (v : ℤ) → IsFollowed s p → event s p ≡ Some (Read cell v) → HasValue s cell (p - 1) v
  -- values are words
  pub read_words : (p cell : ℕ) (v : ℤ) → event s p ≡ Some (Read cell v) → FitsSigned w64 v
  pub written_words : (p cell : ℕ) (v : ℤ) → event s p ≡ Some (Write cell v) → FitsSigned w64 v
  pub opening_words : (cell : ℕ) → FitsSigned w64 (slice_index_or s.opening cell (pos 0))

-- the cells' values after all events
pub record AreFinal (s : EventOrder) (values : List ℤ) : Type 0 where
  pub all : length values ≡ length s.opening
  pub each : (cell : ℕ) → cell < length s.opening → HasValue s cell (length s.events) (slice_index_or values cell (pos 0))
