-- Where a worker is held up.
--
-- - `of_replay`: what a replay says of its event order, it says of the run's;
-- - `owed`, `owed_in`: at a `sync` a child of the block is elsewhere;
-- - `has_spawn`: at the `resume` after a spawn, the piece has the spawn.
use Rattle.std.proofs.Common.{◌≡◌, ◌⊎◌, inl, inr, ⊎_elim, ℕ, ◌+◌, ◌<◌, ◌≤◌, List, [], ◌∷◌, length, Option, Some, ap, sym, subst, arith}
use mathlib.Core.Logic.{dite}
use native.Mathlib.Decide.{dec_lt}
use Rattle.cilk_types.specs.declared.event.Event.{Event}
use Rattle.cilk_types.specs.declared.event.Event.TheVariants.{Sync}
use Rattle.cilk_replay.specs.Awaited.{SyncsAwaitSpawns}
use Rattle.cilk_replay.specs.Replays.{ReplayValue}
use Rattle.cilk_replay.specs.Starts.{RangesBeginInBlocks, RangesHoldSpawns}
use Rattle.cilk_shared.specs.Pieces.{PieceValue, segment_of}
use Rattle.cilk_shared.specs.Rule.{IsStart, Whole}
use Rattle.cilk_shared.specs.Values.{MayPass, YardValue}
use Rattle.cilk_tree.specs.Reach.{Among}
use Rattle.cilk_tree.specs.declared.event_order.EventOrder.{EventOrder}
use Rattle.cilk_tree.specs.Word.{event, plain, predecessors_of, resume, word_event, word_step}
use Rattle.cilk_tree.proofs.Reaches.{among_first, among_here, among_more, among_none}
use Rattle.cilk_workers.specs.Rows.{IsGood, yard_of}
use Rattle.cilk_workers.specs.Shared.{SharedValue, event_order_in}
use Rattle.cilk_workers.specs.Turns.{IsOwed}

-- a number of the list is below a, or none is
below : (ps : List ℕ) (a : ℕ) → ((e : ℕ) × Among e ps × (e < a)) ⊎ ((e : ℕ) → Among e ps → a ≤ e)
below [] a = inr (λ e am. absurd (among_none am))
below (x ∷ ps) a = dite (dec_lt x a)
    (λ (less : x < a). inl (x, among_here x ps, less))
    (λ past. ⊎_elim
    (λ (found : (e : ℕ) × Among e ps × (e < a)). inl (found.0, among_more x ps found.1, found.2))
    (λ (none : (e : ℕ) → Among e ps → a ≤ e). inr (λ e am. ⊎_elim (λ (same : e ≡ x). omega (arith, same, past)) (λ (more : Among e ps). none e more) (among_first x ps am)))
    (below ps a))

sync_is_plain : (s : EventOrder) (q : ℕ) → event s q ≡ Some Sync → word_step s q ≡ plain
sync_is_plain s q is = ap (λ (o : Option Event). word_event s.events q o (predecessors_of s q)) is

owed : (p : PieceValue) → SyncsAwaitSpawns p.event_order → RangesBeginInBlocks p.event_order → IsStart p.event_order p.from → Whole p.event_order p.from p.upto → p.from < p.upto
    → p.upto < (let s = p.event_order in length s.events) → event p.event_order p.upto ≡ Some Sync → (MayPass (segment_of p) → ⊥) → IsOwed p.event_order p
owed p law in_blocks start whole some more is held = ⊎_elim
    (λ (found : (e : ℕ) × Among e (predecessors_of p.event_order p.upto) × (e < p.from)).
    let e = found.0 in
    let low = found.2 in
    let child = law p.upto e is found.1 (λ (next : e + 1 ≡ p.upto). omega (arith, next, low, some)) in
    record { spawn_at = child.0; end_at = e; child = child.1; elsewhere = low; begins = in_blocks p.from p.upto e whole start some is found.1 low })
    (λ (none : (e : ℕ) → Among e (predecessors_of p.event_order p.upto) → p.from ≤ e). absurd (held (some, omega (arith, more), sync_is_plain p.event_order p.upto is, none)))
    (below (predecessors_of p.event_order p.upto) p.from)

pub owed_in : (y : SharedValue) (p : PieceValue) → IsGood y.run p → SyncsAwaitSpawns (event_order_in y) → RangesBeginInBlocks (event_order_in y) → (p.from < p.upto → IsStart p.event_order p.from)
    → Whole p.event_order p.from p.upto → p.upto < (let s = event_order_in y in length s.events) → event (event_order_in y) p.upto ≡ Some Sync → (MayPass (segment_of p) → ⊥) → IsOwed (event_order_in y) p
owed_in y p good law in_blocks begins whole more is held =
    let o = good.0 in
    subst (λ (s : EventOrder). IsOwed s p) o.1
    (owed p (subst SyncsAwaitSpawns (sym o.1) law) (subst RangesBeginInBlocks (sym o.1) in_blocks) (begins good.1) whole good.1 (subst (λ (s : EventOrder). p.upto < length s.events) (sym o.1) more)
    (subst (λ (s : EventOrder). event s p.upto ≡ Some Sync) (sym o.1) is) held)

pub of_replay : (P : EventOrder → Type 0) (y : SharedValue) (u : ReplayValue) → u ≡ y.replay → (let v = y.replay in v.yard ≡ yard_of y.run) → P (let z = u.yard in z.event_order) → P (event_order_in y)
of_replay P y u same yard h = subst (λ (z : YardValue). P z.event_order) yard (subst (λ (v : ReplayValue). let z = v.yard in P z.event_order) same h)

pub has_spawn : (y : SharedValue) (q : PieceValue) (k : ℕ) → IsGood y.run q → (q.from < q.upto → IsStart q.event_order q.from) → Whole q.event_order q.from q.upto → RangesHoldSpawns (event_order_in y)
    → word_step (event_order_in y) q.upto ≡ resume k → q.from ≤ k
has_spawn y q k good begins whole law is =
    let o = good.0 in
    law q.from q.upto k (subst (λ (s : EventOrder). Whole s q.from q.upto) o.1 whole) (subst (λ (s : EventOrder). IsStart s q.from) o.1 (begins good.1)) good.1 is
