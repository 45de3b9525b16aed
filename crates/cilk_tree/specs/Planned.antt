-- The event order of a plan, and the runs that have a plan.
use Rattle.std.specs.Prelude.{◌≡◌, ◌≢◌, ◌⊎◌, ℕ, ◌-◌, ◌^◌, ◌≤◌, ℤ, Bool, true, List, [], ◌∷◌, length, Some}
use Rattle.cilk_types.specs.declared.event.Event.{Event}
use Rattle.cilk_types.specs.declared.event.Event.TheVariants.{Read, Sync}
use Rattle.cilk_types.specs.declared.limits.TheConstants.{MAX_EVENTS}
use Rattle.cilk_tree.specs.Shape.{Shape, Spells}
use Rattle.cilk_tree.specs.Tree.{tree}
use Rattle.cilk_tree.specs.Reach.{IsSynced}
use Rattle.cilk_tree.specs.Races.{event_at, HasNoRace}
use Rattle.cilk_tree.specs.declared.event_order.EventOrder.{EventOrder}
use Rattle.cilk_tree.specs.Values.{HasValue}
use Rattle.cilk_tree.specs.Word.{event, predecessors_of}
use Rattle.cilk_tree.specs.Passes.{predecessors_in}

-- on the input of the run each event is requested
abbrev pub all_asked : List Event → List Bool
all_asked [] = []
all_asked (e ∷ es) = true ∷ all_asked es

-- the event order of a list of events whose cells open with these values
abbrev pub planned : List Event → List ℤ → EventOrder
planned events opening = record { events = events; preceding = predecessors_in events; opening = opening; asked = all_asked events }

-- The events are those of a run whose frames sync after they spawned and in which no two accesses
-- race. Each read gives its cell's value, where the cells open with these values.
pub record HasPlan (events : List Event) (opening : List ℤ) : Type 0 where
  pub shape : Shape
  pub spells : Spells shape events
  pub synced : IsSynced shape
  pub free : HasNoRace (tree shape) events
  pub few_events : length events ≤ MAX_EVENTS
  pub few_cells : length opening ≤ 2 ^ 32
  pub reads : (p cell : ℕ) (v : ℤ) → event_at events p ≡ Some (Read cell v) → HasValue (planned events opening) cell (p - 1) v

-- an empty list, or a list of one
abbrev pub IsAtMostOne : List ℕ → Type 0
IsAtMostOne ps = (ps ≡ []) ⊎ ((p : ℕ) × (ps ≡ p ∷ []))

-- only a `sync` has more than one immediate predecessor
abbrev pub HasOneAhead : EventOrder → Type 0
HasOneAhead s = (p : ℕ) → event s p ≢ Some Sync → IsAtMostOne (predecessors_of s p)
