-- The values that a run reads from its reducers.
use Rattle.std.specs.Prelude.{◌≡◌, ℕ, ℤ, Some}
use Rattle.cilk_types.specs.declared.event.Event.TheVariants.{Value}
use Rattle.cilk_types.specs.declared.event.Instance.{Instance}
use Rattle.cilk_monoid.specs.Kinds.{structure_of}
use Rattle.cilk_monoid.specs.Ranges.{view_of}
use Rattle.cilk_tree.specs.declared.event_order.EventOrder.{EventOrder}
use Rattle.cilk_tree.specs.Runs.{IsFollowed}
use Rattle.cilk_tree.specs.Word.{event}
use Rattle.cilk_shared.specs.declared.reducers.Reducers.{Reducers}
use Rattle.cilk_shared.specs.Reducers.{events_over, kind_in}

-- the value at a position is the number of its reducer's view over the events before it
abbrev pub IsNumberAt : EventOrder → Reducers → ℕ → Instance → ℤ → Type 0
IsNumberAt s r p i v = v ≡ (structure_of (kind_in r i)).number (view_of (structure_of (kind_in r i)) i (events_over s r 1 p))

-- this holds at each position up to which the run follows its event order
abbrev pub HasNumbers : EventOrder → Reducers → Type 0
HasNumbers s r = (p : ℕ) (i : Instance) (v : ℤ) → IsFollowed s p → event s p ≡ Some (Value i v) → IsNumberAt s r p i v
