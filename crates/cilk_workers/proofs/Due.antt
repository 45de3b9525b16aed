-- The requirements of a worker's next event on its piece and its chain.
--
-- - `of_yard`, `of_event_order`: the piece belongs to the yard, and to its event order; `on_chain`: a
--   fact of the event order, for the chain;
-- - `can_pass`, `passes`: the piece may pass its next event;
-- - `follows`, `answered`: what the chain may be answered;
-- - `taken_on`, `begun_on`: the piece that has taken a continuation.
use Rattle.std.proofs.Common.{◌≡◌, ◌⊎◌, inl, ℕ, ◌+◌, ◌-◌, ◌<◌, ◌≤◌, ℤ, cond, nat_lt, length, Some, refl, sym, ap, ap₂, ◌∙◌, subst, arith}
use Rattle.std.proofs.lemmas.Bool.Decides.{nat_tests}
use Rattle.cilk_types.specs.declared.event.Event.{Event}
use Rattle.cilk_types.specs.declared.event.Event.TheVariants as events
use Rattle.cilk_types.specs.declared.event.Instance.{Instance}
use Rattle.cilk_workers.specs.Rows.{IsGood, OfRun, RunValue, yard_of}
use Rattle.cilk_replay.specs.Asking.{Follows, IsAnswered, IsAnswerTo}
use Rattle.cilk_replay.specs.Chains.{ChainValue, standing}
use Rattle.cilk_frames.specs.declared.cursor.Answer.{Answer}
use Rattle.cilk_frames.specs.declared.cursor.Answer.TheVariants.{Done}
use Rattle.cilk_monoid.specs.Kinds.{structure_of}
use Rattle.cilk_monoid.specs.Ranges.{view_of}
use Rattle.cilk_shared.specs.Pieces.{PieceValue, IsPieceOf, PassesOn, grown, number_ahead, piece_of, segment_of}
use Rattle.cilk_shared.specs.Reducers.{events_over, kind_in}
use Rattle.cilk_shared.specs.declared.reducers.Reducers.{Reducers}
use Rattle.cilk_tree.specs.declared.kind.Kind.{Kind}
use Rattle.cilk_shared.specs.Values.{CanPass, CanTake, IsAhead, SegmentValue, YardValue, taken_at}
use Rattle.cilk_tree.specs.declared.event_order.EventOrder.{EventOrder}
use Rattle.cilk_tree.specs.Orders.{IsOrderly}
use Rattle.cilk_tree.specs.Runs.{IsAsked, IsFollowed}
use Rattle.cilk_tree.specs.Word.{event, predecessors_of, plain, resume, word_step}
use Rattle.cilk_tree.specs.Reach.{Among}
use Rattle.cilk_workers.specs.Shared.{SharedValue, event_order_in}
use Rattle.cilk_shared.specs.Numbers.{HasNumbers}
use Rattle.cilk_workers.specs.Turns.{HasMore, IsDue, Works}
use Rattle.cilk_workers.specs.declared.work.Work.{Work}
use Rattle.cilk_workers.proofs.OfKind.{event_with, with_kind, IsDoneKind, done}

-- ---- the piece

pub of_yard : (y : RunValue) (z : YardValue) (p : PieceValue) → z ≡ yard_of y → OfRun y p → IsPieceOf z p
of_yard y z p same o = (o.0 ∙ ap (λ (v : YardValue). v.of) (sym same), o.1 ∙ ap (λ (v : YardValue). v.event_order) (sym same))

-- a fact of the run's event order, for the piece's
pub of_event_order : (P : EventOrder → Type 0) (y : RunValue) (p : PieceValue) → OfRun y p → P y.event_order → P p.event_order
of_event_order P y p o h = subst P (sym o.1) h

-- a fact of the run's event order, for the yard's
pub in_yard : (P : EventOrder → Type 0) (y : SharedValue) (z : YardValue) → z ≡ yard_of y.run → P (event_order_in y) → P z.event_order
in_yard P y z same h = subst (λ (v : YardValue). P v.event_order) (sym same) h

-- a fact of the run's event order at the piece's end, for the piece's segment
pub in_segment : (P : EventOrder → ℕ → Type 0) (y : SharedValue) (p : PieceValue) (g : SegmentValue) → g ≡ segment_of p → OfRun y.run p → P (event_order_in y) p.upto → P g.event_order g.upto
in_segment P y p g same o h = subst (λ (z : SegmentValue). P z.event_order z.upto) (sym same) (of_event_order (λ (s : EventOrder). P s p.upto) y.run p o h)

pub off_segment : (P : EventOrder → ℕ → Type 0) (y : SharedValue) (p : PieceValue) (g : SegmentValue) → g ≡ segment_of p → OfRun y.run p → P g.event_order g.upto → P (event_order_in y) p.upto
off_segment P y p g same o h = subst (λ (s : EventOrder). P s p.upto) o.1 (subst (λ (z : SegmentValue). P z.event_order z.upto) same h)

-- the piece's next event isn't the `resume` after a spawn
pub ahead : (y : SharedValue) (p : PieceValue) (g : SegmentValue) → g ≡ segment_of p → IsGood y.run p → ((k : ℕ) → word_step (event_order_in y) p.upto ≡ resume k → ⊥) → IsAhead g
ahead y p g same good other =
    subst IsAhead (sym same) (good.1, of_event_order (λ (s : EventOrder). (k : ℕ) → word_step s p.upto ≡ resume k → ⊥) y.run p good.0 other)

-- the piece with one event more
pub grown_good : (y : SharedValue) (p q : PieceValue) → IsGood y.run p → q ≡ grown p → IsGood y.run q × (q.from ≡ p.from) × (q.upto ≡ p.upto + 1)
grown_good y p q good is =
    subst (λ (z : PieceValue). IsGood y.run z × (z.from ≡ p.from) × (z.upto ≡ p.upto + 1)) (sym is)
    ((good.0, let less = good.1 in omega (arith, less)), refl, refl)

-- the number of a view is the one that the run reads
pub number_read : (y : SharedValue) (p : PieceValue) (i : Instance) (v n : ℤ) → OfRun y.run p → HasNumbers (event_order_in y) (let r = y.run in r.reducers) → IsFollowed (event_order_in y) p.upto
    → event (event_order_in y) p.upto ≡ Some (events.Value i v) → n ≡ number_ahead p i → n ≡ v
number_read y p i v n o numbers followed is shown =
    shown
    ∙ ap₂ (λ (s : EventOrder) (r : Reducers). (structure_of (kind_in r i)).number (view_of (structure_of (kind_in r i)) i (events_over s r 1 p.upto))) o.1 o.2
    ∙ sym (numbers p.upto i v followed is)

-- a piece with events has a first position
pub from_one : (a b : ℕ) → a < b → 1 ≤ b
from_one a b less = omega (arith, less)

-- an event that is no step on a word and no `sync` comes right after the event before it
pub can_pass : (y : SharedValue) (p : PieceValue) → IsGood y.run p → IsOrderly (event_order_in y) → IsAsked (event_order_in y) p.upto → p.upto < (let s = event_order_in y in length s.events)
    → word_step (event_order_in y) p.upto ≡ plain → (event (event_order_in y) p.upto ≡ Some events.Sync → ⊥) → CanPass (segment_of p)
can_pass y p good order asked more quiet other =
    of_event_order (λ (s : EventOrder). ((p.from < p.upto) × (p.upto ≤ length s.events) × (word_step s p.upto ≡ plain) × ((e : ℕ) → Among e (predecessors_of s p.upto) → p.from ≤ e)) × IsAsked s p.upto) y.run p good.0
    ((good.1, omega (arith, more), quiet, λ e among. let next = order.ordinary p.upto quiet other e among in let less = good.1 in omega (arith, next, less)), asked)

pub passes : (y : SharedValue) (p : PieceValue) (e : Event) → IsGood y.run p → CanPass (segment_of p) → event (event_order_in y) p.upto ≡ Some e → PassesOn p e
passes y p e good can is = (can, of_event_order (λ (s : EventOrder). event s p.upto ≡ Some e) y.run p good.0 is)

-- ---- the chain

-- a fact of the run's event order at the piece's end, for the chain
pub on_chain : (P : EventOrder → ℕ → Type 0) (y : SharedValue) (w : Work) → Works y w → (let u = y.replay in u.yard ≡ yard_of y.run) → (let p = w.piece in P (event_order_in y) p.upto)
    → (let k = w.chain in let u = k.of in let z = u.yard in P z.event_order k.at)
on_chain P y w works same h =
    subst (λ (k : ChainValue). let u = k.of in let z = u.yard in P z.event_order k.at) (sym works.stands)
    (let p = w.piece in subst (λ (z : YardValue). P z.event_order p.upto) (sym same) h)

-- and back
pub off_chain : (P : EventOrder → ℕ → Type 0) (y : SharedValue) (w : Work) → Works y w → (let u = y.replay in u.yard ≡ yard_of y.run) → (let k = w.chain in let u = k.of in let z = u.yard in P z.event_order k.at)
    → (let p = w.piece in P (event_order_in y) p.upto)
off_chain P y w works same h =
    let p = w.piece in
    subst (λ (z : YardValue). P z.event_order p.upto) same (subst (λ (k : ChainValue). let u = k.of in let z = u.yard in P z.event_order k.at) works.stands h)

-- the same for a chain at that position
pub on_standing : (P : EventOrder → ℕ → Type 0) (y : SharedValue) (k : ChainValue) (at : ℕ) → k ≡ standing y.replay at → (let u = y.replay in u.yard ≡ yard_of y.run) → P (event_order_in y) at
    → (let u = k.of in let z = u.yard in P z.event_order k.at)
on_standing P y k at stands same h =
    subst (λ (c : ChainValue). let u = c.of in let z = u.yard in P z.event_order c.at) (sym stands)
    (subst (λ (z : YardValue). P z.event_order at) (sym same) h)

-- and back
pub off_standing : (P : EventOrder → ℕ → Type 0) (y : SharedValue) (k : ChainValue) (at : ℕ) → k ≡ standing y.replay at → (let u = y.replay in u.yard ≡ yard_of y.run)
    → (let u = k.of in let z = u.yard in P z.event_order k.at) → P (event_order_in y) at
off_standing P y k at stands same h =
    subst (λ (z : YardValue). P z.event_order at) same (subst (λ (c : ChainValue). let u = c.of in let z = u.yard in P z.event_order c.at) stands h)

module _ (y : SharedValue) (w : Work) (k : Kind) (due : IsDue y w k) (more : HasMore y w) (same : let u = y.replay in u.yard ≡ yard_of y.run) where
  -- the next event
  pub here : (v : ℤ) × (let p = w.piece in event (event_order_in y) p.upto ≡ Some (event_with k v))
  here = with_kind (event (event_order_in y) (let p = w.piece in p.upto)) k due.kind_is

  follows : (e : Event) → (let p = w.piece in event (event_order_in y) p.upto ≡ Some e) → (let p = w.piece in Follows (event_order_in y) p.upto e)
  follows e is =
      let works = due.works in
      let good = works.good in
      let p = w.piece in
      record { first = from_one p.from p.upto good.1; asked = due.asked; is = is; more = more }

  -- the current frame follows the event
  pub chain_follows : (e : Event) → (let p = w.piece in event (event_order_in y) p.upto ≡ Some e) → (let c = w.chain in let u = c.of in let z = u.yard in Follows z.event_order c.at e)
  chain_follows e is = on_chain (λ s at. Follows s at e) y w due.works same (follows e is)

  -- and is answered so
  pub answered : (v : ℤ) (a : Answer) → (let p = w.piece in event (event_order_in y) p.upto ≡ Some (event_with k v)) → IsAnswerTo (event_with k v) a
      → (let c = w.chain in let u = c.of in let z = u.yard in IsAnswered z.event_order c.at a)
  answered v a is answer = on_chain (λ s at. IsAnswered s at a) y w due.works same (event_with k v, follows (event_with k v) is, answer)

  pub answered_done : IsDoneKind k → (let c = w.chain in let u = c.of in let z = u.yard in IsAnswered z.event_order c.at Done)
  answered_done d = let e = here in answered e.0 Done e.1 (done k e.0 d)

-- ---- a continuation is taken

abbrev piece_from : PieceValue → ℕ → ℕ → PieceValue
piece_from p b n = record { of = p.of; event_order = p.event_order; reducers = p.reducers; from = b; upto = n }

pub taken_on : (p : PieceValue) (at : ℕ) → p.from < p.upto → at ≡ p.upto → piece_of p.reducers (taken_at (segment_of p) at) ≡ grown p
taken_on p at some is =
    let begin : cond (nat_lt p.from p.upto) p.from at ≡ p.from = grind (arith, nat_tests) in
    ap₂ (λ (b n : ℕ). piece_from p b n) begin (ap (λ (n : ℕ). n + 1) is)

pub begun_on : (p : PieceValue) (at : ℕ) → p.upto ≤ p.from → cond (nat_lt p.from p.upto) p.from at ≡ at
begun_on p at none = grind (arith, nat_tests)

-- there is one `resume` after a spawn
pub can_take : (y : SharedValue) (z : YardValue) (p : PieceValue) (ticket at : ℕ) → z ≡ yard_of y.run → IsOrderly (event_order_in y) → word_step (event_order_in y) at ≡ resume ticket
    → ((p.upto ≤ p.from) ⊎ ((p.from < p.upto) × (at ≡ p.upto))) → CanTake z (segment_of p) ticket
can_take y z p ticket at same order is where_to =
    in_yard (λ (s : EventOrder). (q : ℕ) → word_step s q ≡ resume ticket → (p.upto ≤ p.from) ⊎ ((p.from < p.upto) × (q ≡ p.upto))) y z same
    (λ q there. let one = order.once at q ticket is there in subst (λ (n : ℕ). (p.upto ≤ p.from) ⊎ ((p.from < p.upto) × (n ≡ p.upto))) one where_to)

-- the chain after the piece's next event
pub moved : (y : SharedValue) (w : Work) (k : ChainValue) → Works y w → (let c = w.chain in k ≡ standing c.of (c.at + 1)) → (let p = w.piece in k ≡ standing y.replay (p.upto + 1))
moved y w k works is = is ∙ ap (λ (c : ChainValue). standing c.of (c.at + 1)) works.stands

abbrev pub IsTakenAt : YardValue → PieceValue → ℕ → PieceValue → Type 0
IsTakenAt z p ticket q = (at : ℕ) × (word_step z.event_order at ≡ resume ticket) × (q ≡ piece_of p.reducers (taken_at (segment_of p) at))

there_alone : (y : SharedValue) (z : YardValue) (ticket at : ℕ) → z ≡ yard_of y.run → IsOrderly (event_order_in y) → word_step (event_order_in y) at ≡ resume ticket → (at' : ℕ) → word_step z.event_order at' ≡ resume ticket → at' ≡ at
there_alone y z ticket at same order is at' there = order.once at' at ticket (subst (λ (v : YardValue). word_step v.event_order at' ≡ resume ticket) same there) is

-- a piece has taken its next event, the `resume` after a spawn
pub took : (y : SharedValue) (z : YardValue) (w : Work) (ticket : ℕ) (q : PieceValue) (k : ChainValue) → z ≡ yard_of y.run → IsOrderly (event_order_in y) → Works y w
    → (let p = w.piece in word_step (event_order_in y) p.upto ≡ resume ticket) → IsTakenAt z w.piece ticket q → (let c = w.chain in k ≡ standing c.of (c.at + 1))
    → Works y (record { piece = q; chain = k }) × (let p = w.piece in q ≡ grown p)
took y z w ticket q k same order works is (at, there, taken) stands =
    let p = w.piece in
    let good = works.good in
    let one = there_alone y z ticket p.upto same order is at there in
    let is = taken ∙ taken_on p at good.1 one in
    let g = grown_good y p q good is in
    (record { good = g.0; stands = moved y w k works stands ∙ ap (λ (n : ℕ). standing y.replay n) (sym g.2) }, is)

-- an empty piece that has taken a continuation begins there
pub began_there : (y : SharedValue) (z : YardValue) (p : PieceValue) (ticket : ℕ) (q : PieceValue) → z ≡ yard_of y.run → p.upto ≤ p.from → IsTakenAt z p ticket q → word_step (event_order_in y) q.from ≡ resume ticket
began_there y z p ticket q same none (at, there, taken) =
    subst (λ (x : PieceValue). word_step (event_order_in y) x.from ≡ resume ticket) (sym taken)
    (subst (λ (n : ℕ). word_step (event_order_in y) n ≡ resume ticket) (sym (begun_on p at none)) (subst (λ (v : YardValue). word_step v.event_order at ≡ resume ticket) same there))

-- it isn't empty
pub begun_good : (y : SharedValue) (z : YardValue) (p : PieceValue) (ticket at : ℕ) (q : PieceValue) → z ≡ yard_of y.run → IsOrderly (event_order_in y) → OfRun y.run p → p.upto ≤ p.from
    → word_step (event_order_in y) at ≡ resume ticket → IsTakenAt z p ticket q → IsGood y.run q × (q.upto ≡ at + 1)
begun_good y z p ticket at q same order o none is (at', there, taken) =
    let begin = begun_on p at' none in
    subst (λ (x : PieceValue). IsGood y.run x × (x.upto ≡ at + 1)) (sym taken)
    ((o, subst (λ (n : ℕ). n < at' + 1) (sym begin) (omega arith)), ap (λ (n : ℕ). n + 1) (there_alone y z ticket at same order is at' there))

-- and its frame requested the `resume`
pub begun_asked : (y : SharedValue) (q : PieceValue) (g : SegmentValue) (at : ℕ) → IsGood y.run q → q.upto ≡ at + 1 → g ≡ segment_of q → IsFollowed g.event_order (g.upto - 1) → IsAsked (event_order_in y) at
begun_asked y q g at good upto is followed =
    let last : q.upto - 1 ≡ at = omega (arith, upto) in
    let up : IsFollowed q.event_order (q.upto - 1) = subst (λ (x : SegmentValue). IsFollowed x.event_order (x.upto - 1)) is followed in
    subst (IsAsked (event_order_in y)) last (subst (λ (s : EventOrder). IsAsked s (q.upto - 1)) (let of = good.0 in of.1) (up (q.upto - 1) (inl refl)))

-- an empty piece has taken a continuation
pub began : (y : SharedValue) (z : YardValue) (p : PieceValue) (ticket at : ℕ) (q : PieceValue) (k : ChainValue) → z ≡ yard_of y.run → IsOrderly (event_order_in y) → OfRun y.run p → p.upto ≤ p.from
    → word_step (event_order_in y) at ≡ resume ticket → IsTakenAt z p ticket q → k ≡ standing y.replay (at + 1) → Works y (record { piece = q; chain = k })
began y z p ticket at q k same order o none is (at', there, taken) stands =
    let one = there_alone y z ticket at same order is at' there in
    let begin = begun_on p at' none in
    subst (λ (x : PieceValue). Works y (record { piece = x; chain = k })) (sym taken) (record {
      good = (o, subst (λ (n : ℕ). n < at' + 1) (sym begin) (omega arith));
      stands = stands ∙ ap (λ (n : ℕ). standing y.replay (n + 1)) (sym one);
    })
