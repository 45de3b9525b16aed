-- The value of a piece in contracts, and the invariant of its type.
use Rattle.std.specs.Prelude.{◌≡◌, ℕ, ℤ, ◌<◌, Some}
use Rattle.atomic_table.specs.Seated.{TableId}
use Rattle.cilk_types.specs.declared.event.Event.{Event}
use Rattle.cilk_types.specs.declared.event.Instance.{Instance}
use Rattle.cilk_monoid.specs.Kinds.{structure_of}
use Rattle.cilk_monoid.specs.Ranges.{HaveWords, view_of}
use Rattle.cilk_hypermap.specs.declared.hypermap.Hypermap.{Hypermap}
use Rattle.cilk_hypermap.specs.Ranges.{ShowsRange}
use Rattle.cilk_shared.specs.Rule.{IsStart, Whole}
use Rattle.cilk_shared.specs.Values.{YardValue, SegmentValue, OfYard, moved_on, taken_at, empty_beside, both_of, Adjoin, CanPass}
use Rattle.cilk_shared.specs.declared.taken.Taken.{Taken}
use Rattle.cilk_shared.specs.declared.taken.Taken.TheVariants.{Yes, No}
use Rattle.cilk_tree.specs.declared.event_order.EventOrder.{EventOrder}
use Rattle.cilk_tree.specs.Word.{event, word_step, resume}
use Rattle.cilk_shared.specs.declared.reducers.Reducers.{Reducers}
use Rattle.cilk_shared.specs.Reducers.{kind_in, events_over}
use Rattle.cilk_shared.specs.Settled.{AreSettled}

-- a segment, and the reducers of its run
pub record PieceValue : Type 0 where
  pub of : TableId
  pub event_order : EventOrder
  pub reducers : Reducers
  pub from : ℕ
  pub upto : ℕ

abbrev pub piece_of : Reducers → SegmentValue → PieceValue
piece_of r g = record { of = g.of; event_order = g.event_order; reducers = r; from = g.from; upto = g.upto }

abbrev pub segment_of : PieceValue → SegmentValue
segment_of p = record { of = p.of; event_order = p.event_order; from = p.from; upto = p.upto }

-- The views are those of the segment's range. The range begins at the start of the run or where a
-- continuation is resumed. The immediate predecessors of each of its events are in it, except those
-- of such a resumption.
pub record Covers (views : Hypermap) (r : Reducers) (g : SegmentValue) : Type 0 where
  pub settled : AreSettled g.event_order r
  pub begins : g.from < g.upto → IsStart g.event_order g.from
  pub whole : Whole g.event_order g.from g.upto
  pub words : HaveWords (events_over g.event_order r g.from g.upto)
  pub shows : ShowsRange (kind_in r) views (events_over g.event_order r g.from g.upto)

-- it belongs to the yard
abbrev pub IsPieceOf : YardValue → PieceValue → Type 0
IsPieceOf y p = OfYard y (segment_of p)

-- the two belong to the yard, and to one run's reducers
abbrev pub AreOfOne : YardValue → PieceValue → PieceValue → Type 0
AreOfOne y p q = IsPieceOf y p × IsPieceOf y q × (q.reducers ≡ p.reducers)

-- the piece with one more event
abbrev pub grown : PieceValue → PieceValue
grown p = piece_of p.reducers (moved_on (segment_of p))

-- an empty piece
abbrev pub none_beside : PieceValue → PieceValue
none_beside p = piece_of p.reducers (empty_beside (segment_of p))

-- the piece of two that adjoin
abbrev pub joined : PieceValue → PieceValue → PieceValue
joined p q = piece_of p.reducers (both_of (segment_of p) (segment_of q))

abbrev pub Adjoining : PieceValue → PieceValue → Type 0
Adjoining p q = Adjoin (segment_of p) (segment_of q)

-- The continuation of the spawn at k is taken and p has become q; or it is refused, and nothing has
-- changed.
abbrev pub IsPieceTaken : YardValue → PieceValue → ℕ → PieceValue → Taken → Type 0
IsPieceTaken y p k q Yes = (at : ℕ) × (word_step y.event_order at ≡ resume k) × (q ≡ piece_of p.reducers (taken_at (segment_of p) at))
IsPieceTaken y p k q (No d) = (q ≡ p) × (d ≡ k)

-- this is the piece's next event, the frame requests it, and it is no step on a shared word
abbrev pub PassesOn : PieceValue → Event → Type 0
PassesOn p e = CanPass (segment_of p) × (event p.event_order p.upto ≡ Some e)

-- the number of a reducer's view over the events of the run before the next one
abbrev pub number_ahead : PieceValue → Instance → ℤ
number_ahead p i = (structure_of (kind_in p.reducers i)).number (view_of (structure_of (kind_in p.reducers i)) i (events_over p.event_order p.reducers 1 p.upto))
