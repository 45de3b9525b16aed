-- The values of a yard and of a segment in contracts.
use Rattle.std.specs.Prelude.{◌≡◌, ◌≢◌, ℕ, ◌+◌, ◌<◌, ◌≤◌, ◌⊎◌, cond, nat_lt, ℤ, pos, List, Some, length, slice_index_or}
use Rattle.atomic_table.specs.Seated.{TableId}
use Rattle.cilk_types.specs.declared.event.Event.TheVariants.{Read, Write}
use Rattle.cilk_tree.specs.Reach.{Among}
use Rattle.cilk_tree.specs.declared.event_order.EventOrder.{EventOrder}
use Rattle.cilk_tree.specs.Word.{event, word_step, predecessors_of, plain, spawn, resume, finish}
use Rattle.cilk_tree.specs.Runs.{IsAsked}
use Rattle.cilk_tree.specs.Values.{HasValue}
use Rattle.cilk_shared.specs.declared.taken.Taken.{Taken}
use Rattle.cilk_shared.specs.declared.taken.Taken.TheVariants.{Yes, No}
use Rattle.cilk_shared.specs.Rows.{spanned}

pub record YardValue : Type 0 where
  pub of : TableId
  pub event_order : EventOrder

-- the events from `from` up to `upto` are done
pub record SegmentValue : Type 0 where
  pub of : TableId
  pub event_order : EventOrder
  pub from : ℕ
  pub upto : ℕ

-- the segment belongs to the yard
abbrev pub OfYard : YardValue → SegmentValue → Type 0
OfYard y g = (g.of ≡ y.of) × (g.event_order ≡ y.event_order)

abbrev pub moved_on : SegmentValue → SegmentValue
moved_on g = record { of = g.of; event_order = g.event_order; from = g.from; upto = g.upto + 1 }

-- the segment isn't empty, and the frame requests its next event
abbrev pub GoesOn : YardValue → SegmentValue → Type 0
GoesOn y g = (g.from < g.upto) × IsAsked y.event_order g.upto

-- the next event of the segment reads the cell
abbrev pub NextRead : YardValue → SegmentValue → ℕ → Type 0
NextRead y g c = GoesOn y g × (c < length y.event_order.opening) × ((v : ℤ) × (event y.event_order g.upto ≡ Some (Read c v)))

-- the next event of the segment writes the value to the cell
abbrev pub NextWrite : YardValue → SegmentValue → ℕ → ℤ → Type 0
NextWrite y g c v = GoesOn y g × (c < length y.event_order.opening) × (event y.event_order g.upto ≡ Some (Write c v))

-- the next event of the segment is a spawn
abbrev pub NextSpawn : YardValue → SegmentValue → Type 0
NextSpawn y g = GoesOn y g × (word_step y.event_order g.upto ≡ spawn)

-- the next event of the segment is the root's `end`
abbrev pub NextFinish : YardValue → SegmentValue → Type 0
NextFinish y g = GoesOn y g × (word_step y.event_order g.upto ≡ finish)

-- The segment is empty, or the `resume` after the spawn at k is its next event, as it is after the
-- `end` of the spawned child. If there is no spawn at k, there is no such event.
abbrev pub CanTake : YardValue → SegmentValue → ℕ → Type 0
CanTake y g k = (p : ℕ) → word_step y.event_order p ≡ resume k → (g.upto ≤ g.from) ⊎ ((g.from < g.upto) × (p ≡ g.upto))

-- a frame that requests a spawn requests the `resume` after it
abbrev pub SpawnsResume : EventOrder → Type 0
SpawnsResume s = (k p : ℕ) → word_step s p ≡ resume k → IsAsked s k → IsAsked s p

-- the segment continued at p
abbrev pub taken_at : SegmentValue → ℕ → SegmentValue
taken_at g p = record { of = g.of; event_order = g.event_order; from = cond (nat_lt g.from g.upto) g.from p; upto = p + 1 }

-- The continuation of the spawn at k is taken and g has become h; or it is refused, and nothing has
-- changed.
abbrev pub IsTaken : YardValue → SegmentValue → ℕ → SegmentValue → Taken → Type 0
IsTaken y g k h Yes = (p : ℕ) × (word_step y.event_order p ≡ resume k) × (h ≡ taken_at g p)
IsTaken y g k h (No d) = (h ≡ g) × (d ≡ k)

-- the immediate predecessors of the next event are not before the start of the segment
abbrev pub HoldsPreceding : SegmentValue → Type 0
HoldsPreceding g = (e : ℕ) → Among e (predecessors_of g.event_order g.upto) → g.from ≤ e

-- there is a next event, it is no step on a word, and its immediate predecessors are in the segment
abbrev pub MayPass : SegmentValue → Type 0
MayPass g = (g.from < g.upto) × (g.upto ≤ length g.event_order.events) × (word_step g.event_order g.upto ≡ plain) × HoldsPreceding g

-- and the frame requests it
abbrev pub CanPass : SegmentValue → Type 0
CanPass g = MayPass g × IsAsked g.event_order g.upto

-- the segment isn't empty, and its next event isn't the `resume` after a spawn
abbrev pub IsAhead : SegmentValue → Type 0
IsAhead g = (g.from < g.upto) × ((k : ℕ) → word_step g.event_order g.upto ≢ resume k)

-- the values of the first n cells after all events
pub record AreLastValues (s : EventOrder) (n : ℕ) (values : List ℤ) : Type 0 where
  pub all : length values ≡ n
  pub each : (cell : ℕ) → cell < n → HasValue s cell (length s.events) (slice_index_or values cell (pos 0))

abbrev pub empty_beside : SegmentValue → SegmentValue
empty_beside g = record { of = g.of; event_order = g.event_order; from = 0; upto = 0 }

-- one is empty, or the second begins where the first ends
abbrev pub Adjoin : SegmentValue → SegmentValue → Type 0
Adjoin g h = (g.upto ≤ g.from) ⊎ (h.upto ≤ h.from) ⊎ ((g.from < g.upto) × (h.from < h.upto) × (g.upto ≡ h.from))

abbrev pub both_of : SegmentValue → SegmentValue → SegmentValue
both_of g h = record { of = g.of; event_order = g.event_order; from = (spanned g.from g.upto h.from h.upto).0; upto = (spanned g.from g.upto h.from h.upto).1 }
