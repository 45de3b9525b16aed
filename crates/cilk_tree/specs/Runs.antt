-- An event order on an input: which events its frames request.
use Rattle.std.specs.Prelude.{◌≡◌, ◌≢◌, ℕ, ◌+◌, ◌-◌, ◌⊎◌, true, false, Some, slice_index_or}
use Rattle.cilk_types.specs.declared.event.Event.TheVariants.{Sync}
use Rattle.cilk_tree.specs.Before.{IsPosition}
use Rattle.cilk_tree.specs.declared.event_order.EventOrder.{EventOrder}
use Rattle.cilk_tree.specs.Word.{event, Before}

-- the frame requests the event at the position, up to its value
abbrev pub IsAsked : EventOrder → ℕ → Type 0
IsAsked s p = slice_index_or s.asked (p - 1) false ≡ true

-- the event at the position and all events before it are requested
abbrev pub IsFollowed : EventOrder → ℕ → Type 0
IsFollowed s p = (q : ℕ) → (q ≡ p) ⊎ Before s q p → IsAsked s q

-- all events before the position are requested; for a `sync`, those up to the event right before it
pub record IsReached (s : EventOrder) (p : ℕ) : Type 0 where
  pub sync : event s p ≡ Some Sync → (e : ℕ) → e + 1 ≡ p → IsFollowed s e
  pub other : event s p ≢ Some Sync → (q : ℕ) → Before s q p → IsAsked s q

-- the run departs from the event order at the position
pub record Departs (s : EventOrder) (p : ℕ) : Type 0 where
  pub place : IsPosition s.events p
  pub reached : IsReached s p
  pub differs : IsAsked s p → ⊥
