-- The properties of an event order that hold whatever its values are.
use Rattle.std.specs.Prelude.{◌≡◌, ◌≢◌, ℕ, ◌+◌, ◌^◌, ◌<◌, ◌≤◌, length, Some}
use Rattle.cilk_types.specs.declared.event.Event.TheVariants.{Sync}
use Rattle.cilk_tree.specs.Shape.{Shape, Spells}
use Rattle.cilk_tree.specs.Tree.{tree}
use Rattle.cilk_tree.specs.Reach.{Among, predecessors, IsSynced}
use Rattle.cilk_tree.specs.Races.{HasNoRace}
use Rattle.cilk_tree.specs.declared.event_order.EventOrder.{EventOrder}
use Rattle.cilk_tree.specs.Word.{event, predecessors_of, Before, plain, spawn, resume, finish, word_step, IsLine, Conflict, IsWord}

pub record IsOrderly (s : EventOrder) : Type 0 where
  -- the root's `begin` is the first event, and no step on a shared word
  pub root : (word_step s 1 ≡ plain) × (1 ≤ length s.events)
  pub none_ahead : (e : ℕ) → Among e (predecessors_of s 1) → ⊥
  -- the root's `end` is the last event
  pub last : word_step s (length s.events) ≡ finish
  pub finished : (p : ℕ) → word_step s p ≡ finish → p ≡ length s.events
  pub inside : (p : ℕ) → IsWord (word_step s p) → (1 ≤ p) × (p ≤ length s.events)
  pub few : length s.events + 1 < 2 ^ 32
  pub small : length s.opening + length s.events + 1 < 2 ^ 34
  pub earlier : (p e : ℕ) → Among e (predecessors_of s p) → e < p
  -- a read, a write, a spawn and the root's `end` follow the event before them alone
  pub line : (p : ℕ) → IsLine (word_step s p) → (e : ℕ) → Among e (predecessors_of s p) → e + 1 ≡ p
  -- so does every other event except a `sync` and the `resume` after a spawn
  pub ordinary : (p : ℕ) → word_step s p ≡ plain → event s p ≢ Some Sync → (e : ℕ) → Among e (predecessors_of s p) → e + 1 ≡ p
  -- such a `resume` follows its spawn alone, and each spawn has one
  pub resumed : (p q : ℕ) → word_step s p ≡ resume q → (word_step s q ≡ spawn) × Among q (predecessors_of s p) × ((e : ℕ) → Among e (predecessors_of s p) → e ≡ q)
  pub returns : (q : ℕ) → word_step s q ≡ spawn → (p : ℕ) × (word_step s p ≡ resume q)
  pub once : (p p' q : ℕ) → word_step s p ≡ resume q → word_step s p' ≡ resume q → p ≡ p'
  -- of two accesses of a cell, at least one of them a write, the earlier is before the later
  pub no_race : (p q : ℕ) → p < q → Conflict s p q → Before s p q
  -- all events are before the last one
  pub all : (p : ℕ) → 1 ≤ p → p < length s.events → Before s p (length s.events)

-- the event order of a run of this shape
pub record IsEventOrderOf (shape : Shape) (s : EventOrder) : Type 0 where
  pub spells : Spells shape s.events
  pub preceding : s.preceding ≡ predecessors shape

-- If each frame syncs after it spawned, the event order of a run without a determinacy race is
-- orderly.
abbrev pub EventOrdersAreOrderly : Type 0
EventOrdersAreOrderly =
    (shape : Shape) (s : EventOrder) → IsEventOrderOf shape s → IsSynced shape → length s.events + 1 < 2 ^ 32
    → length s.opening + length s.events + 1 < 2 ^ 34 → HasNoRace (tree shape) s.events → IsOrderly s
