-- A piece keeps the views of its range.
--
-- - `covers_first`, `covers_none`: the piece of the first event, and an empty one; `covers_kept`:
--   other views with the same values;
-- - `covers_on`, `covers_quiet`, `covers_taken`: one event more;
-- - `covers_event`, `after_..`, `covers_read`, `number_read`, `covers_end`: events of reducers;
-- - `covers_both`, `covers_three`: pieces that adjoin;
-- - `of_piece`: a fact of what contracts see is one of the fields.
use Rattle.std.proofs.Common.{◌≡◌, ◌⊎◌, ⊎_elim, ℕ, suc, ℤ, ◌+◌, ◌-◌, ◌<◌, ◌≤◌, [], ◌∷◌, ◌++◌, length, None, Some, inl, inr, refl, sym, ap, ◌∙◌, subst, arith, append-nil, cond}
use Rattle.std.proofs.lemmas.Bool.{lt-ltb, le-ltb, cond-true}
use mathlib.Core.Logic.{dite}
use native.Mathlib.Decide.{dec_lt, ℕ_discrete}
use Rattle.cilk_types.specs.declared.event.Instance.{Instance}
use Rattle.cilk_types.specs.declared.event.Event.TheVariants as events
use Rattle.cilk_monoid.specs.declared.kind.MonoidKind.{MonoidKind}
use Rattle.cilk_monoid.specs.Kinds.{structure_of, IsMember}
use Rattle.cilk_monoid.specs.Lawful.{lawful}
use Rattle.cilk_monoid.specs.Laws.{MonoidStructure}
use Rattle.cilk_monoid.specs.Ranges.{ReducerEvent, Created, Updated, SetTo, HasWord, HaveWords, Mentions, Resets, instance_of, same_instance, after_event, view_after, view_of}
use Rattle.cilk_monoid.specs.Values.{ViewValue}
use Rattle.cilk_monoid.proofs.RangeLaws.{same_self, view_of-adjoining}
use Rattle.cilk_tree.specs.Frames.{IsInFrame}
use Rattle.cilk_hypermap.specs.declared.hypermap.Hypermap.{Hypermap}
use Rattle.cilk_hypermap.specs.Hypermap.{EachKind, view_in, value_in, ChangesIn}
use Rattle.cilk_hypermap.proofs.Merges.{each_kind}
use Rattle.cilk_hypermap.specs.Ranges.{ShowsRange, JoinsRanges, ResetsNone}
use Rattle.cilk_shared.specs.Rows.{spanned}
use Rattle.cilk_shared.specs.Rule.{IsStart, Whole}
use Rattle.cilk_shared.specs.Values.{YardValue, SegmentValue, OfYard, CanTake, CanPass, Adjoin, moved_on, both_of, IsTaken}
use Rattle.cilk_shared.specs.declared.taken.Taken.{Taken}
use Rattle.cilk_shared.specs.declared.taken.Taken.TheVariants.{Yes, No}
use Rattle.cilk_shared.proofs.Sets.{word_of_resume}
use Rattle.cilk_tree.specs.Reach.{Among}
use Rattle.cilk_tree.specs.declared.event_order.EventOrder.{EventOrder}
use Rattle.cilk_tree.specs.Orders.{IsOrderly}
use Rattle.cilk_tree.specs.Word.{predecessors_of, event, word_step, resume, IsLine}
use Rattle.cilk_shared.specs.declared.reducers.FrameReducers.{FrameReducers}
use Rattle.cilk_shared.specs.declared.reducers.Reducers.{Reducers}
use Rattle.cilk_shared.specs.Pieces.{PieceValue, Covers, piece_of, number_ahead}
use Rattle.cilk_shared.specs.Reducers.{kind_in, events_at, events_over, frame_in, of_event, own, retired}
use Rattle.cilk_shared.specs.Settled.{AreSettled}
use Rattle.cilk_shared.proofs.Quiet.{quiet_resume, quiet_value, words_ends, in_frame}
use Rattle.cilk_shared.proofs.Ranges.{words_both, none_over, over_on, over_spanned, spanned_both, spanned_left, spanned_right}
use Rattle.cilk_shared.proofs.Settling.{resets_none, view_ahead}
use Rattle.cilk_shared.proofs.Shown.{shows_none, shows_change, shows_read, shows_ends}

-- what comes right before the event at p is from a on, or p is a resumption
abbrev pub IsBehind : EventOrder → ℕ → ℕ → Type 0
IsBehind s a p = ((q : ℕ) × (word_step s p ≡ resume q)) ⊎ ((e : ℕ) → Among e (predecessors_of s p) → a ≤ e)

pub behind_line : (s : EventOrder) → IsOrderly s → (a p : ℕ) → a < p → IsLine (word_step s p) → IsBehind s a p
behind_line s law a p lt line = inr (λ e there. let near = law.line p line e there in omega (arith, lt, near))

whole_on : (s : EventOrder) (a p : ℕ) → Whole s a p → IsBehind s a p → Whole s a (p + 1)
whole_on s a p whole here x le lt = dite (ℕ_discrete x p)
    (λ (same : x ≡ p). subst (λ j. IsBehind s a j) (sym same) here)
    (λ other. whole x le (omega (arith, lt, other)))

-- ---- a first piece, and an empty one
pub covers_first : (s : EventOrder) → IsOrderly s → (r : Reducers) → AreSettled s r → (h : Hypermap) → EachKind (λ k. (i : Instance) → view_in h k i ≡ None) → events_at s r 1 ≡ []
    → (g : SegmentValue) → g.event_order ≡ s → (g.from ≡ 1) × (g.upto ≡ 2) → Covers h r g
covers_first s law r settled h empty quiet g same at =
    let none : events_over s r 1 2 ≡ [] = over_on s r 1 1 (omega arith) ∙ ap (λ es. es ++ events_at s r 1) (none_over s r 1 1 (omega arith)) ∙ quiet in
    let here : events_over g.event_order r g.from g.upto ≡ [] = ap (λ (z : EventOrder). events_over z r g.from g.upto) same ∙ (λ i. events_over s r (at.0 i) (at.1 i)) ∙ none in
    record {
      settled = subst (λ (z : EventOrder). AreSettled z r) (sym same) settled;
      begins = λ _. subst (IsStart g.event_order) (sym at.0) (omega arith, inl refl);
      whole = λ x le lt. inr (λ e there. absurd (law.none_ahead e (let one : x ≡ 1 = omega (arith, le, lt, at.0, at.1) in subst (λ (y : ℕ). Among e (predecessors_of s y)) one (subst (λ (z : EventOrder). Among e (predecessors_of z x)) same there))));
      words = subst HaveWords (sym here) tt;
      shows = subst (ShowsRange (kind_in r) h) (sym here) (shows_none (kind_in r) h empty);
    }

pub covers_none : (r : Reducers) (h : Hypermap) → EachKind (λ k. (i : Instance) → view_in h k i ≡ None) → (g : SegmentValue) → AreSettled g.event_order r → g.upto ≤ g.from → Covers h r g
covers_none r h empty g settled le =
    let here : events_over g.event_order r g.from g.upto ≡ [] = none_over g.event_order r g.from g.upto le in
    record {
      settled = settled;
      begins = λ lt. absurd (omega (arith, le, lt));
      whole = λ x le' lt. absurd (omega (arith, le, le', lt));
      words = subst HaveWords (sym here) tt;
      shows = subst (ShowsRange (kind_in r) h) (sym here) (shows_none (kind_in r) h empty);
    }

pub covers_kept : (r : Reducers) (h h' : Hypermap) (g : SegmentValue) → ShowsRange (kind_in r) h' (events_over g.event_order r g.from g.upto) → Covers h r g → Covers h' r g
covers_kept r h h' g shows c = record { settled = c.settled; begins = c.begins; whole = c.whole; words = c.words; shows = shows }

-- ---- one event more
pub covers_on : (h h' : Hypermap) (r : Reducers) (g : SegmentValue) → Covers h r g → g.from < g.upto → IsBehind g.event_order g.from g.upto → HaveWords (events_at g.event_order r g.upto)
    → ShowsRange (kind_in r) h' (events_over g.event_order r g.from g.upto ++ events_at g.event_order r g.upto) → (g' : SegmentValue) → g' ≡ moved_on g → Covers h' r g'
covers_on h h' r g c some behind words shows g' e =
    let longer = over_on g.event_order r g.from g.upto (omega (arith, some)) in
    subst (λ (k : SegmentValue). Covers h' r k) (sym e) (record {
      settled = c.settled;
      begins = λ _. c.begins some;
      whole = whole_on g.event_order g.from g.upto c.whole behind;
      words = subst HaveWords (sym longer) (words_both (events_over g.event_order r g.from g.upto) (events_at g.event_order r g.upto) c.words words);
      shows = subst (ShowsRange (kind_in r) h') (sym longer) shows;
    })

-- by an event of no reducer
pub covers_quiet : (h h' : Hypermap) (r : Reducers) (g : SegmentValue) → Covers h r g → g.from < g.upto → IsBehind g.event_order g.from g.upto → events_at g.event_order r g.upto ≡ []
    → ShowsRange (kind_in r) h' (events_over g.event_order r g.from g.upto) → (g' : SegmentValue) → g' ≡ moved_on g → Covers h' r g'
covers_quiet h h' r g c some behind quiet shows g' e =
    covers_on h h' r g c some behind (subst HaveWords (sym quiet) tt)
    (subst (ShowsRange (kind_in r) h') (sym (ap (λ es. events_over g.event_order r g.from g.upto ++ es) quiet ∙ append-nil (events_over g.event_order r g.from g.upto))) shows) g' e

-- by a continuation that was taken, or not
pub covers_taken : (y : YardValue) → IsOrderly y.event_order → (h : Hypermap) (r : Reducers) (g : SegmentValue) (k : ℕ) → OfYard y g → CanTake y g k → Covers h r g → (t : Taken) (g' : SegmentValue) → IsTaken y g k g' t → Covers h r g'
covers_taken y law h r g k of can c (No d) g' e = subst (λ (j : SegmentValue). Covers h r j) (sym e.0) c
covers_taken y law h r g k of can c Yes g' e =
    let p = e.0 in
    let is : word_step g.event_order p ≡ resume k = ap (λ (z : EventOrder). word_step z p) of.1 ∙ e.1 in
    let quiet = quiet_resume g.event_order r p k is in
    ⊎_elim
    (λ (none : g.upto ≤ g.from).
    let one : events_over g.event_order r p (p + 1) ≡ [] = over_on g.event_order r p p (omega arith) ∙ ap (λ es. es ++ events_at g.event_order r p) (none_over g.event_order r p p (omega arith)) ∙ quiet in
    let was : events_over g.event_order r g.from g.upto ≡ [] = none_over g.event_order r g.from g.upto none in
    let there : g' ≡ record { of = g.of; event_order = g.event_order; from = p; upto = p + 1 } = e.2 ∙ ap (λ b. record { of = g.of; event_order = g.event_order; from = cond b g.from p; upto = p + 1 }) (le-ltb g.from g.upto none) in
    subst (λ (j : SegmentValue). Covers h r j) (sym there) (record {
      settled = c.settled;
      begins = λ _. ((law.inside p (word_of_resume (word_step y.event_order p) k e.1)).0, inr (k, is));
      whole = λ x le lt. inl (k, (let at : x ≡ p = omega (arith, le, lt) in ap (word_step g.event_order) at ∙ is));
      words = subst HaveWords (sym one) tt;
      shows = subst (ShowsRange (kind_in r) h) (was ∙ sym one) c.shows;
    }))
    (λ (next : (g.from < g.upto) × (p ≡ g.upto)).
    let at : word_step g.event_order g.upto ≡ resume k = ap (word_step g.event_order) (sym next.1) ∙ is in
    let there : g' ≡ moved_on g = e.2 ∙ ap (λ b. record { of = g.of; event_order = g.event_order; from = cond b g.from p; upto = p + 1 }) (lt-ltb g.from g.upto next.0) ∙ ap (λ n. record { of = g.of; event_order = g.event_order; from = g.from; upto = n + 1 }) next.1 in
    covers_quiet h h r g c next.0 (inl (k, at)) (ap (events_at g.event_order r) (sym next.1) ∙ quiet) c.shows g' there)
    (can p e.1)

-- by an event of one reducer
pub covers_event : (h h' : Hypermap) (r : Reducers) (g : SegmentValue) → Covers h r g → CanPass g → (i : Instance) (e : ReducerEvent) → instance_of e ≡ i → HasWord e → events_at g.event_order r g.upto ≡ e ∷ []
    → (k : MonoidKind) → k ≡ kind_in r i → (w : ViewValue) → ChangesIn h h' k i (Some w) → w ≡ after_event (structure_of k) i e (value_in h k i) → (g' : SegmentValue) → g' ≡ moved_on g → Covers h' r g'
covers_event h h' r g c next i e of_i word is k kind w changes w_is g' eq =
    covers_on h h' r g c next.0.0 (inr next.0.3) (subst HaveWords (sym is) (word, tt))
    (subst (λ es. ShowsRange (kind_in r) h' (events_over g.event_order r g.from g.upto ++ es)) (sym is)
    (shows_change (kind_in r) h h' i w (subst (λ n. ChangesIn h h' n i (Some w)) kind changes) (events_over g.event_order r g.from g.upto) e of_i
    (w_is ∙ ap (λ n. after_event (structure_of n) i e (value_in h n i)) kind) c.shows)) g' eq

pub after_created : (S : MonoidStructure ViewValue) (i : Instance) (v : ViewValue) → S.unit ≡ after_event S i (Created i) v
after_created S i v = sym (cond-true (same_instance i i) S.unit v (same_self i))

pub after_updated : (S : MonoidStructure ViewValue) (i : Instance) (x : ℤ) (v : ViewValue) → S.combine v (S.single x) ≡ after_event S i (Updated i x) v
after_updated S i x v = sym (cond-true (same_instance i i) (S.combine v (S.single x)) v (same_self i))

pub after_set : (S : MonoidStructure ViewValue) (i : Instance) (x : ℤ) (v : ViewValue) → S.single x ≡ after_event S i (SetTo i x) v
after_set S i x v = sym (cond-true (same_instance i i) (S.single x) v (same_self i))

-- a reducer's value is read
pub covers_read : (h h' : Hypermap) (r : Reducers) (g : SegmentValue) → Covers h r g → CanPass g → (i : Instance) (v : ℤ) → event g.event_order g.upto ≡ Some (events.Value i v)
    → (k : MonoidKind) → k ≡ kind_in r i → ChangesIn h h' k i (Some (value_in h k i)) → (g' : SegmentValue) → g' ≡ moved_on g → Covers h' r g'
covers_read h h' r g c next i v is k kind changes g' eq =
    covers_quiet h h' r g c next.0.0 (inr next.0.3) (quiet_value g.event_order r g.upto i v is)
    (shows_read (kind_in r) h h' i (value_in h k i) (subst (λ n. ChangesIn h h' n i (Some (value_in h k i))) kind changes) (events_over g.event_order r g.from g.upto) (ap (λ n. value_in h n i) kind) c.shows) g' eq

-- its number is that of its view over all events before
pub number_read : (h : Hypermap) (r : Reducers) (g : SegmentValue) → IsOrderly g.event_order → Covers h r g → CanPass g → (i : Instance) (v : ℤ) → event g.event_order g.upto ≡ Some (events.Value i v)
    → (k : MonoidKind) → k ≡ kind_in r i → (n : ℤ) → n ≡ (structure_of k).number (value_in h k i) → n ≡ number_ahead (piece_of r g) i
number_read h r g law c next i v is k kind n n_is =
    n_is ∙ ap (λ m. (structure_of m).number (value_in h m i)) kind
    ∙ ap (structure_of (kind_in r i)).number
    (c.shows i ∙ view_ahead g.event_order law r c.settled g.from g.upto (c.begins next.0.0) (let lt = next.0.0 in omega (arith, lt)) (whole_on g.event_order g.from g.upto c.whole (inr next.0.3)) i (inl (v, is)) (structure_of (kind_in r i)))

-- a frame ends
pub covers_end : (h h' : Hypermap) (r : Reducers) (g : SegmentValue) → Covers h r g → g.from < g.upto → IsBehind g.event_order g.from g.upto → event g.event_order g.upto ≡ Some events.End
    → (f : ℕ) → IsInFrame g.event_order.events g.upto f → (r' : Reducers) → r' ≡ r → ((k : MonoidKind) (i : Instance) → value_in h' k i ≡ view_after (structure_of k) i (retired f (own r' f)) (value_in h k i))
    → (g' : SegmentValue) → g' ≡ moved_on g → Covers h' r g'
covers_end h h' r g c some behind is f mine r' same ends g' e =
    let here : events_at g.event_order r g.upto ≡ retired f (own r f) = ap (of_event r (frame_in g.event_order.events g.upto)) is ∙ ap (λ n. retired n (own r n)) (in_frame g.event_order.events g.upto f (omega (arith, some)) mine) in
    let o : FrameReducers = own r f in
    covers_on h h' r g c some behind (subst HaveWords (sym here) (words_ends f (suc o.outlive) (length o.kinds - o.outlive)))
    (subst (λ es. ShowsRange (kind_in r) h' (events_over g.event_order r g.from g.upto ++ es)) (sym here)
    (shows_ends (kind_in r) h h' (events_over g.event_order r g.from g.upto) (retired f (own r f)) (λ k i. ends k i ∙ ap (λ (q : Reducers). view_after (structure_of k) i (retired f (own q f)) (value_in h k i)) same) c.shows)) g' e

-- ---- two that adjoin
-- what a range is, whatever the views are
pub record Spans (r : Reducers) (g : SegmentValue) : Type 0 where
  pub settled : AreSettled g.event_order r
  pub begins : g.from < g.upto → IsStart g.event_order g.from
  pub whole : Whole g.event_order g.from g.upto
  pub words : HaveWords (events_over g.event_order r g.from g.upto)

pub spans_of : (h : Hypermap) (r : Reducers) (g : SegmentValue) → Covers h r g → Spans r g
spans_of h r g c = record { settled = c.settled; begins = c.begins; whole = c.whole; words = c.words }

pub covers_of : (h : Hypermap) (r : Reducers) (g : SegmentValue) → Spans r g → ShowsRange (kind_in r) h (events_over g.event_order r g.from g.upto) → Covers h r g
covers_of h r g c shows = record { settled = c.settled; begins = c.begins; whole = c.whole; words = c.words; shows = shows }

right_start : (s : EventOrder) (a b c : ℕ) → IsStart s a → a < b → b ≡ c → IsStart s c → (k : ℕ) × (word_step s c ≡ resume k)
right_start s a b c low lt meet start = ⊎_elim
    (λ (z : c ≡ 1). let l = low.0 in absurd (omega (arith, z, meet, lt, l)))
    (λ (h : (k : ℕ) × (word_step s c ≡ resume k)). h)
    start.1

-- a segment with another value, of the same event order
spans_along : (r : Reducers) (g h : SegmentValue) → h.event_order ≡ g.event_order → Spans r h → Spans r (record { of = g.of; event_order = g.event_order; from = h.from; upto = h.upto })
spans_along r g h same c = record {
  settled = subst (λ (z : EventOrder). AreSettled z r) same c.settled;
  begins = λ lt. subst (λ (z : EventOrder). IsStart z h.from) same (c.begins lt);
  whole = subst (λ (z : EventOrder). Whole z h.from h.upto) same c.whole;
  words = subst (λ (z : EventOrder). HaveWords (events_over z r h.from h.upto)) same c.words;
}

-- the right range resets nothing that the left one mentions
pub apart_ranges : (r : Reducers) (g h : SegmentValue) → IsOrderly g.event_order → h.event_order ≡ g.event_order → Spans r g → Spans r h → Adjoin g h → ResetsNone (events_over g.event_order r g.from g.upto) (events_over g.event_order r h.from h.upto)
apart_ranges r g h law same c d (inl none) i mention reset = subst (λ es. Mentions i es) (none_over g.event_order r g.from g.upto none) mention
apart_ranges r g h law same c d (inr (inl none)) i mention reset = subst (λ es. Resets i es) (none_over g.event_order r h.from h.upto none) reset
apart_ranges r g h law same c d (inr (inr meet)) i mention reset =
    let e = spans_along r g h same d in
    let start = right_start g.event_order g.from g.upto h.from (c.begins meet.0) meet.0 meet.2 (e.begins meet.1) in
    resets_none g.event_order law r c.settled h.from start.0 start.1 g.from h.upto e.whole i (subst (λ (n : ℕ). Mentions i (events_over g.event_order r g.from n)) meet.2 mention) reset

abbrev IsRange : EventOrder → ℕ → ℕ → Type 0
IsRange s a b = (a < b → IsStart s a) × Whole s a b

range_both : (s : EventOrder) (a b c d : ℕ) → (b ≤ a) ⊎ (d ≤ c) ⊎ ((a < b) × (c < d) × (b ≡ c)) → IsRange s a b → IsRange s c d → IsRange s (spanned a b c d).0 (spanned a b c d).1
range_both s a b c d near one two = dite (dec_lt a b)
    (λ (ab : a < b). dite (dec_lt c d)
    (λ (cd : c < d).
    let meet : b ≡ c = elim near as (λ _. b ≡ c) [ inl e ↦ omega arith | inr (inl e) ↦ omega arith | inr (inr q) ↦ q.2 ] in
    let all : IsRange s a d = (
      λ _. one.0 ab,
      λ x le lt. dite (dec_lt x b)
          (λ (left : x < b). one.1 x le left)
          (λ right. ⊎_elim
          (λ (q : (k : ℕ) × (word_step s x ≡ resume k)). inl q)
          (λ (inner : (e : ℕ) → Among e (predecessors_of s x) → c ≤ e). inr (λ e there. let low = inner e there in omega (arith, low, meet, ab)))
          (two.1 x (omega (arith, right, meet)) lt)),
    ) in
    subst (λ (p : ℕ × ℕ). IsRange s p.0 p.1) (sym (spanned_both a b c d ab cd)) all)
    (λ shut. subst (λ (p : ℕ × ℕ). IsRange s p.0 p.1) (sym (spanned_left a b c d ab (omega (arith, shut)))) one))
    (λ shut. subst (λ (p : ℕ × ℕ). IsRange s p.0 p.1) (sym (spanned_right a b c d (omega (arith, shut)))) two)

pub spans_both : (r : Reducers) (g h : SegmentValue) → h.event_order ≡ g.event_order → Spans r g → Spans r h → Adjoin g h → Spans r (both_of g h)
spans_both r g h same c d near =
    let e = spans_along r g h same d in
    let both = range_both g.event_order g.from g.upto h.from h.upto near (c.begins, c.whole) (e.begins, e.whole) in
    record {
      settled = c.settled;
      begins = both.0;
      whole = both.1;
      words = subst HaveWords (sym (over_spanned g.event_order r g.from g.upto h.from h.upto near)) (words_both (events_over g.event_order r g.from g.upto) (events_over g.event_order r h.from h.upto) c.words e.words);
    }

-- the views of two ranges make those of both
pub shows_both : (r : Reducers) (g h : SegmentValue) (l m n : Hypermap) → IsOrderly g.event_order → h.event_order ≡ g.event_order → Covers l r g → Covers m r h → Adjoin g h → JoinsRanges l m n
    → ShowsRange (kind_in r) n (events_over g.event_order r (spanned g.from g.upto h.from h.upto).0 (spanned g.from g.upto h.from h.upto).1)
shows_both r g h l m n law same c d near joins =
    let e = spans_along r g h same (spans_of m r h d) in
    subst (ShowsRange (kind_in r) n) (sym (over_spanned g.event_order r g.from g.upto h.from h.upto near))
    (joins (kind_in r) (events_over g.event_order r g.from g.upto) (events_over g.event_order r h.from h.upto) c.words e.words (apart_ranges r g h law same (spans_of l r g c) (spans_of m r h d) near) c.shows
    (subst (λ (z : EventOrder). ShowsRange (kind_in r) m (events_over z r h.from h.upto)) same d.shows))

pub covers_both : (y : YardValue) → IsOrderly y.event_order → (r r' : Reducers) (g h : SegmentValue) (l m n : Hypermap) → OfYard y g → OfYard y h → r' ≡ r → Covers l r g → Covers m r' h → Adjoin g h → JoinsRanges l m n
    → (j : SegmentValue) → j ≡ both_of g h → Covers n r j
covers_both y law r r' g h l m n of of' one c d near joins j is =
    let same : h.event_order ≡ g.event_order = of'.1 ∙ sym of.1 in
    let law' : IsOrderly g.event_order = subst IsOrderly (sym of.1) law in
    let d' : Covers m r h = subst (λ (q : Reducers). Covers m q h) one d in
    subst (λ (k : SegmentValue). Covers n r k) (sym is)
    (covers_of n r (both_of g h) (spans_both r g h same (spans_of l r g c) (spans_of m r h d') near) (shows_both r g h l m n law' same c d' near joins))

-- of three
pub covers_three : (y : YardValue) → IsOrderly y.event_order → (r r' r'' : Reducers) (g h i : SegmentValue) (l m n o : Hypermap) → OfYard y g → OfYard y h → OfYard y i → r' ≡ r → r'' ≡ r → Covers l r g → Covers m r' h → Covers n r'' i
    → Adjoin g h → Adjoin (both_of g h) i → EachKind (λ k. (q : Instance) → value_in o k q ≡ (structure_of k).combine ((structure_of k).combine (value_in l k q) (value_in m k q)) (value_in n k q))
    → (b j : SegmentValue) → b ≡ both_of g h → j ≡ both_of b i → Covers o r j
covers_three y law r r' r'' g h i l m n o of of' of'' one one' c d e near near' values b j b_is j_is =
    let same : h.event_order ≡ g.event_order = of'.1 ∙ sym of.1 in
    let same' : i.event_order ≡ g.event_order = of''.1 ∙ sym of.1 in
    let law' : IsOrderly g.event_order = subst IsOrderly (sym of.1) law in
    let d' : Covers m r h = subst (λ (q : Reducers). Covers m q h) one d in
    let e' : Covers n r i = subst (λ (q : Reducers). Covers n q i) one' e in
    let left = spans_of l r g c in
    let middle = spans_along r g h same (spans_of m r h d') in
    let right = spans_along r g i same' (spans_of n r i e') in
    let both = spans_both r g h same left (spans_of m r h d') near in
    let L = events_over g.event_order r g.from g.upto in
    let M = events_over g.event_order r h.from h.upto in
    let R = events_over g.event_order r i.from i.upto in
    let B = events_over g.event_order r (spanned g.from g.upto h.from h.upto).0 (spanned g.from g.upto h.from h.upto).1 in
    let two = over_spanned g.event_order r g.from g.upto h.from h.upto near in
    let shows : ShowsRange (kind_in r) o (B ++ R) = λ q.
    (let k = kind_in r q in
    let S = structure_of k in
    each_kind (λ k. (q : Instance) → value_in o k q ≡ (structure_of k).combine ((structure_of k).combine (value_in l k q) (value_in m k q)) (value_in n k q)) values k q
    ∙ (λ t. S.combine (S.combine (c.shows q t) (subst (λ (z : EventOrder). ShowsRange (kind_in r) m (events_over z r h.from h.upto)) same d'.shows q t)) (subst (λ (z : EventOrder). ShowsRange (kind_in r) n (events_over z r i.from i.upto)) same' e'.shows q t))
    ∙ ap (λ v. S.combine v (view_of S q R)) (sym (view_of-adjoining S q (IsMember k) (lawful k) L M c.words middle.words (apart_ranges r g h law' same left (spans_of m r h d') near q)) ∙ ap (view_of S q) (sym two))
    ∙ sym (view_of-adjoining S q (IsMember k) (lawful k) B R both.words right.words (apart_ranges r (both_of g h) i law' same' both (spans_of n r i e') near' q))) in
    let all : Covers o r (both_of (both_of g h) i) = covers_of o r (both_of (both_of g h) i) (spans_both r (both_of g h) i same' both (spans_of n r i e') near')
    (subst (ShowsRange (kind_in r) o) (sym (over_spanned g.event_order r (spanned g.from g.upto h.from h.upto).0 (spanned g.from g.upto h.from h.upto).1 i.from i.upto near')) shows) in
    subst (λ (k : SegmentValue). Covers o r k) (sym (j_is ∙ ap (λ (k : SegmentValue). both_of k i) b_is)) all

-- ---- what contracts see
pub of_piece : {p q : PieceValue} (P : PieceValue → Type 0) → p ≡ q → P q → P p
of_piece P e h = subst P (sym e) h

pub two_pieces : {p q p' q' : PieceValue} (P : PieceValue → PieceValue → Type 0) → p ≡ p' → q ≡ q' → P p' q' → P p q
two_pieces P e f h = subst (λ (x : PieceValue × PieceValue). P x.0 x.1) (λ i. (sym e i, sym f i)) h

-- one event more, by a step on a shared word right after the last one
pub covers_line : (y : YardValue) → IsOrderly y.event_order → (h : Hypermap) (r : Reducers) (g : SegmentValue) → OfYard y g → Covers h r g → g.from < g.upto → IsLine (word_step y.event_order g.upto) → events_at y.event_order r g.upto ≡ []
    → (g' : SegmentValue) → g' ≡ moved_on g → Covers h r g'
covers_line y law h r g of c some line quiet g' e =
    covers_quiet h h r g c some (behind_line g.event_order (subst IsOrderly (sym of.1) law) g.from g.upto some (subst (λ (z : EventOrder). IsLine (word_step z g.upto)) (sym of.1) line))
    (ap (λ (z : EventOrder). events_at z r g.upto) of.1 ∙ quiet) c.shows g' e
