-- The condition on reducers under which pieces have the right views, whatever the run's values are.
use Rattle.std.specs.Prelude.{◌≡◌, ℕ, ℤ, ◌+◌, ◌<◌, ◌≤◌, ◌⊎◌, Some}
use Rattle.cilk_types.specs.declared.event.Event.TheVariants.{Value}
use Rattle.cilk_types.specs.declared.event.Instance.{Instance}
use Rattle.cilk_monoid.specs.Ranges.{Mentions, Resets}
use Rattle.cilk_tree.specs.declared.event_order.EventOrder.{EventOrder}
use Rattle.cilk_tree.specs.Word.{event, word_step, Before, plain, spawn}
use Rattle.cilk_shared.specs.declared.reducers.Reducers.{Reducers}
use Rattle.cilk_shared.specs.Reducers.{events_at}

-- the event at the position reads the reducer's value, or begins its view anew, or ends it
abbrev pub Settles : EventOrder → Reducers → ℕ → Instance → Type 0
Settles s r q i = ((v : ℤ) × (event s q ≡ Some (Value i v))) ⊎ Resets i (events_at s r q)

-- The reducers are settled. This holds in a run without a view-read race: no event between an event
-- of a reducer and a later one that reads or resets it is parallel to the later one, since it would
-- not be parallel to the reducer's creation (Lee and Schardl 2015).
pub record AreSettled (s : EventOrder) (r : Reducers) : Type 0 where
  pub settled : (p x q : ℕ) (i : Instance) → Mentions i (events_at s r p) → Settles s r q i → p ≤ x → x < q → Before s x q
  -- the child begins right after its spawn
  pub begins : (k : ℕ) → word_step s k ≡ spawn → word_step s (k + 1) ≡ plain
