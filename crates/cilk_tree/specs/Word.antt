-- The event order of a run, as the threads that share its words see it. Positions count from 1.
use Rattle.std.specs.Prelude.{◌≡◌, ℕ, ◌-◌, ◌⊎◌, nat_eq, if◌then◌else◌, Bool, true, false, ℤ, List, [], ◌∷◌, length, Option, Some, slice_index_or}
use Rattle.std.specs.Int.{cast_unsigned, w64}
use Rattle.cilk_types.specs.declared.event.Event.{Event}
use Rattle.cilk_types.specs.declared.event.Event.TheVariants as events
use Rattle.cilk_tree.specs.Races.{event_at}
use Rattle.cilk_tree.specs.Reach.{Reaches}
use Rattle.cilk_tree.specs.declared.event_order.EventOrder.{EventOrder}

abbrev pub event : EventOrder → ℕ → Option Event
event s p = event_at s.events p

-- the immediate predecessors of a position
abbrev pub predecessors_of : EventOrder → ℕ → List ℕ
predecessors_of s p = slice_index_or s.preceding (p - 1) []

-- q is before p, by immediate predecessors
abbrev pub Before : EventOrder → ℕ → ℕ → Type 0
Before s q p = Reaches (predecessors_of s) q p

-- An event's effect on the shared words: none, a read or a write of a cell whose word is n, a
-- spawn, the `resume` after the spawn at a position, or the root's `end`.
pub data WordEvent : Type 0 where
  plain : WordEvent
  read : (cell : ℕ) (n : ℕ) → WordEvent
  write : (cell : ℕ) (n : ℕ) → WordEvent
  spawn : WordEvent
  resume : (spawned : ℕ) → WordEvent
  finish : WordEvent

-- the word of a value
abbrev pub word : ℤ → ℕ
word v = cast_unsigned w64 v

abbrev pub is_spawn : Option Event → Bool
is_spawn (Some (events.Spawn f)) = true
is_spawn _ = false

-- a `resume` with one predecessor: after a spawn it resumes the spawn's continuation, after a
-- child's `end` it follows a call
abbrev pub resumption : List Event → List ℕ → WordEvent
resumption es (q ∷ []) = if is_spawn (event_at es q) then resume q else plain
resumption es _ = plain

abbrev pub word_event : List Event → ℕ → Option Event → List ℕ → WordEvent
word_event es p (Some (events.Read c v)) ps = read c (word v)
word_event es p (Some (events.Write c v)) ps = write c (word v)
word_event es p (Some (events.Spawn f)) ps = spawn
word_event es p (Some (events.Resume f)) ps = resumption es ps
word_event es p (Some events.End) ps = if nat_eq p (length es) then finish else plain
word_event es p _ ps = plain

-- the effect of the event at a position on the shared words
abbrev pub word_step : EventOrder → ℕ → WordEvent
word_step s p = word_event s.events p (event s p) (predecessors_of s p)

-- a step on a shared word
abbrev pub IsWord : WordEvent → Type 0
IsWord plain = ⊥
IsWord (read c n) = Unit {0}
IsWord (write c n) = Unit {0}
IsWord spawn = Unit {0}
IsWord (resume q) = Unit {0}
IsWord finish = Unit {0}

-- a step on a shared word that follows the event right before it in its frame
abbrev pub IsLine : WordEvent → Type 0
IsLine plain = ⊥
IsLine (read c n) = Unit {0}
IsLine (write c n) = Unit {0}
IsLine spawn = Unit {0}
IsLine (resume q) = ⊥
IsLine finish = Unit {0}

-- a write, and another access of its cell
abbrev pub Conflict : EventOrder → ℕ → ℕ → Type 0
Conflict s p q =
    (c : ℕ) × (v : ℕ) × (w : ℕ)
    × (((word_step s p ≡ write c v) × (word_step s q ≡ read c w)) ⊎ ((word_step s p ≡ read c w) × (word_step s q ≡ write c v)) ⊎ ((word_step s p ≡ write c v) × (word_step s q ≡ write c w)))
