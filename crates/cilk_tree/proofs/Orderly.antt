-- The event order of a run without a determinacy race is orderly: `event_orders_are_orderly`.
use Rattle.std.proofs.Common.{◌≡◌, ◌≢◌, ℕ, zero, suc, ◌+◌, ◌-◌, ◌^◌, ◌<◌, ◌≤◌, List, [], ◌∷◌, length, get_or, map, Option, Some, slice_get, slice_index_or, refl, sym, ap, ◌∙◌, subst, arith, ◌⊎◌, inl, inr, ⊎_elim, eq-eqb}
use Rattle.std.proofs.lemmas.Option.{slice_get_past}
use mathlib.Core.Logic.{dite}
use native.Mathlib.Decide.{dec_lt, ℕ_discrete}
use Rattle.cilk_types.specs.declared.event.Event.{Event}
use Rattle.cilk_types.specs.declared.event.Event.TheVariants as events
use Rattle.cilk_tree.specs.declared.mark.Mark.{Mark}
use Rattle.cilk_tree.specs.declared.mark.Mark.TheVariants as mark
use Rattle.cilk_tree.specs.Marks.{mark_of}
use Rattle.cilk_tree.specs.Shape.{Shape, marks}
use Rattle.cilk_tree.specs.Tree.{tree}
use Rattle.cilk_tree.specs.Reach.{Among, Reaches, preceding, IsSynced}
use Rattle.cilk_tree.specs.Before.{IsPosition}
use Rattle.cilk_tree.specs.Races.{event_at, Accesses, Writes, HasNoRace}
use Rattle.cilk_tree.proofs.Lines.{line_of, long, Laid, whole, laid_whole, none_past, closed_line}
use Rattle.cilk_tree.proofs.Places.{earlier_before, beside_positions}
use Rattle.cilk_tree.proofs.Reaches.{among_none, among_here, among_one, last}
use Rattle.cilk_tree.proofs.Tied.{long_whole, before_is_reached}
use Rattle.cilk_tree.proofs.Tied as tied
use Rattle.cilk_tree.specs.declared.event_order.EventOrder.{EventOrder}
use Rattle.cilk_tree.specs.Word.{event, predecessors_of, Before, plain, read, write, spawn, resume, finish, word_event, word_step, IsLine, Conflict, IsWord}
use Rattle.cilk_tree.specs.Orders.{IsEventOrderOf, IsOrderly, EventOrdersAreOrderly}
use Rattle.cilk_tree.proofs.Events.{mark_at, begin_what, spawn_what, end_what, finish_at, return_what, sync_event, line_not_sync, line_not_resume, spawn_of, spawn_mark, resume_mark, read_event, write_event}
use Rattle.cilk_tree.proofs.EventOrderLines.{Marked, marked_shape, IsReturn, Place, near, synced, returns, first, placed, returned_once, returned, ends_last}

marks_at : (es : List Event) (i : ℕ) → mark_at (slice_get es i) ≡ get_or (map mark_of es) i mark.Plain
marks_at [] zero = refl
marks_at [] (suc i) = refl
marks_at (e ∷ es) zero = refl
marks_at (e ∷ es) (suc i) = marks_at es i

module _ (shape : Shape) (s : EventOrder) (is_event_order : IsEventOrderOf shape s) (synced_shape : IsSynced shape) where
  same : predecessors_of s ≡ preceding shape
  same = ap (λ (l : List (List ℕ)). (λ (p : ℕ). slice_index_or l (p - 1) [])) is_event_order.preceding

  wide : suc (long (line_of shape)) ≡ length s.events
  wide = long_whole shape s.events is_event_order.spells

  laid : Laid (predecessors_of s) (whole shape) 1 [] []
  laid = subst (λ (g : ℕ → List ℕ). Laid g (whole shape) 1 [] []) (sym same) (laid_whole shape)

  marks_list : (i : ℕ) → mark_at (slice_get s.events i) ≡ get_or (mark.Begin ∷ marks shape) i mark.Plain
  marks_list i = marks_at s.events i ∙ ap (λ (l : List Mark). get_or l i mark.Plain) is_event_order.spells

  marked : Marked (λ p. mark_at (event_at s.events p)) shape 2
  marked = marked_shape (λ p. mark_at (event_at s.events p)) shape 2 (λ i l. (let z : 2 + i - 1 ≡ suc i = omega arith in ap (λ (j : ℕ). mark_at (slice_get s.events j)) z ∙ marks_list (suc i)))

  begun : mark_at (event_at s.events 1) ≡ mark.Begin
  begun = marks_list 0

  begun_zero : mark_at (event_at s.events 0) ≡ mark.Begin
  begun_zero = marks_list 0

  place : (q : ℕ) → 1 ≤ q → q ≤ length s.events → Place (predecessors_of s) (λ p. mark_at (event_at s.events p)) q
  place q low high = dite (ℕ_discrete q 1)
      (λ (one : q ≡ 1). subst (Place (predecessors_of s) (λ p. mark_at (event_at s.events p))) (sym one) (first laid.0 begun))
      (λ (more : q ≢ 1). placed (predecessors_of s) (λ p. mark_at (event_at s.events p)) shape 1 [] laid.1 marked q (omega arith) (let w = wide in omega (arith, w)))

  first_what : word_step s 1 ≡ plain
  first_what = begin_what s.events 1 (event_at s.events 1) (predecessors_of s 1) begun

  inside : (p : ℕ) → (word_step s p ≡ plain → ⊥) → IsPosition s.events p
  inside p not = dite (ℕ_discrete p 0)
      (λ (none : p ≡ 0). absurd (not (subst (λ (j : ℕ). word_step s j ≡ plain) (sym none) (begin_what s.events 0 (event_at s.events 0) (predecessors_of s 0) begun_zero))))
      (λ (some : p ≢ 0). dite (dec_lt (length s.events) p)
      (λ (past : length s.events < p). absurd (not (ap (λ (o : Option Event). word_event s.events p o (predecessors_of s p)) (slice_get_past s.events (p - 1) (omega arith)))))
      (λ (within : ¬ (length s.events < p)). (omega arith, omega arith)))

  none_beyond : (p e : ℕ) → (IsPosition s.events p → ⊥) → Among e (predecessors_of s p) → ⊥
  none_beyond p e out a = dite (ℕ_discrete p 0)
      (λ (none : p ≡ 0). among_none (subst (Among e) (ap (predecessors_of s) none ∙ laid.0) a))
      (λ (some : p ≢ 0). dite (dec_lt (length s.events) p)
      (λ (past : length s.events < p). among_none (subst (Among e) (ap (λ (g : ℕ → List ℕ). g p) same ∙ none_past shape p (let w = wide in omega (arith, w))) a))
      (λ (within : ¬ (length s.events < p)). out (omega arith, omega arith)))

  earlier : (p e : ℕ) → Among e (predecessors_of s p) → e < p
  earlier p e a = tied.earlier shape p e (subst (Among e) (ap (λ (g : ℕ → List ℕ). g p) same) a)

  where_is : (p e : ℕ) → Among e (predecessors_of s p) → Place (predecessors_of s) (λ q. mark_at (event_at s.events q)) p
  where_is p e a = dite (ℕ_discrete p 0)
      (λ (none : p ≡ 0). absurd (none_beyond p e (λ i. (let l = i.0 in omega (arith, l))) a))
      (λ (some : p ≢ 0). dite (dec_lt (length s.events) p)
      (λ (past : length s.events < p). absurd (none_beyond p e (λ i. (let l = i.1 in omega (arith, l))) a))
      (λ (within : ¬ (length s.events < p)). place p (omega arith) (omega arith)))

  near_by : (p e : ℕ) → Among e (predecessors_of s p) → (mark_at (event_at s.events p) ≡ mark.Sync → ⊥) → ((k : ℕ) → IsReturn (predecessors_of s) (λ q. mark_at (event_at s.events q)) k p → ⊥) → e + 1 ≡ p
  near_by p e a no_sync no_return = by (where_is p e a)
    where
      by : Place (predecessors_of s) (λ q. mark_at (event_at s.events q)) p → e + 1 ≡ p
      by (near x is alone not) = let k = among_one (subst (Among e) alone a) in omega (arith, k, is)
      by (synced h) = absurd (no_sync h)
      by (returns k r) = absurd (no_return k r)
      by (first none h) = absurd (among_none (subst (Among e) none a))

  line : (p : ℕ) → IsLine (word_step s p) → (e : ℕ) → Among e (predecessors_of s p) → e + 1 ≡ p
  line p is e a = near_by p e a
      (λ h. line_not_sync s.events p (event_at s.events p) (predecessors_of s p) is h)
      (λ k r. line_not_resume s.events p (event_at s.events p) (predecessors_of s p) is r.resumes)

  is_return : (k p : ℕ) → word_step s p ≡ resume k → IsReturn (predecessors_of s) (λ q. mark_at (event_at s.events q)) k p
  is_return k p is =
      let r = resume_mark s.events p (event_at s.events p) (predecessors_of s p) k is in
      record { spawned = (spawn_of s.events k (event_at s.events k) (predecessors_of s k) r.spawned).0; resumes = r.mark; alone = r.alone }

  return_is : (k p : ℕ) → IsReturn (predecessors_of s) (λ q. mark_at (event_at s.events q)) k p → word_step s p ≡ resume k
  return_is k p r = return_what s.events p (event_at s.events p) (predecessors_of s p) k r.resumes r.alone (spawn_what s.events k (event_at s.events k) (predecessors_of s k) r.spawned).0

  ordinary : (p : ℕ) → word_step s p ≡ plain → event s p ≢ Some events.Sync → (e : ℕ) → Among e (predecessors_of s p) → e + 1 ≡ p
  ordinary p is other e a = near_by p e a
      (λ h. other (sync_event (event_at s.events p) h))
      (λ k r. (let z : resume k ≡ plain = sym (return_is k p r) ∙ is in cc z))

  resumed : (p q : ℕ) → word_step s p ≡ resume q → (word_step s q ≡ spawn) × Among q (predecessors_of s p) × ((e : ℕ) → Among e (predecessors_of s p) → e ≡ q)
  resumed p q is =
      let r = resume_mark s.events p (event_at s.events p) (predecessors_of s p) q is in (
        (spawn_of s.events q (event_at s.events q) (predecessors_of s q) r.spawned).1,
        subst (Among q) (sym r.alone) (among_here q []),
        λ e a. among_one (subst (Among e) r.alone a),
      )

  past_first : (p : ℕ) → IsPosition s.events p → (mark_at (event_at s.events p) ≡ mark.Begin → ⊥) → (2 ≤ p) × (p < 2 + long (line_of shape))
  past_first p i not = dite (ℕ_discrete p 1)
      (λ (one : p ≡ 1). absurd (not (ap (λ (j : ℕ). mark_at (event_at s.events j)) one ∙ begun)))
      (λ (more : p ≢ 1). (let l = i.0 in omega (arith, l), let h = i.1 in let w = wide in omega (arith, h, w)))

  back : (q : ℕ) → word_step s q ≡ spawn → (p : ℕ) × (word_step s p ≡ resume q)
  back q is =
      let h = spawn_mark s.events q (event_at s.events q) (predecessors_of s q) is in
      let b = past_first q (inside q (λ z. (let x : spawn ≡ plain = sym is ∙ z in cc x))) (λ z. (let x : mark.Spawn ≡ mark.Begin = sym h ∙ z in cc x)) in
      let r = returned (predecessors_of s) (λ p. mark_at (event_at s.events p)) shape 2 (1 ∷ []) [] laid.1 marked q b.0 b.1 h in
      (r.0, return_is q r.0 r.1)

  only : (p p' q : ℕ) → p < p' → word_step s p ≡ resume q → word_step s p' ≡ resume q → ⊥
  only p p' q less is is' =
      let range : (x : ℕ) → word_step s x ≡ resume q → (2 ≤ x) × (x < 2 + long (line_of shape)) = λ x h. past_first x (inside x (λ z. (let y : resume q ≡ plain = sym h ∙ z in cc y)))
      (λ z. (let y : mark.Resume ≡ mark.Begin = sym (resume_mark s.events x (event_at s.events x) (predecessors_of s x) q h).mark ∙ z in cc y)) in
      returned_once (predecessors_of s) (λ x. mark_at (event_at s.events x)) (λ k x r. earlier x k (subst (Among k) (sym r.alone) (among_here k []))) shape 2 (1 ∷ []) [] laid.1 marked p p' q (range p is).0 less (range p' is').1 (is_return q p is) (is_return q p' is')

  once : (p p' q : ℕ) → word_step s p ≡ resume q → word_step s p' ≡ resume q → p ≡ p'
  once p p' q is is' = dite (dec_lt p p')
      (λ (less : p < p'). absurd (only p p' q less is is'))
      (λ no. dite (dec_lt p' p)
      (λ (less : p' < p). absurd (only p' p q less is' is))
      (λ nor. omega arith))

  before : (p q : ℕ) → Reaches (preceding shape) p q → Before s p q
  before p q h = subst (λ (g : ℕ → List ℕ). Reaches g p q) (sym same) h

  all : (p : ℕ) → 1 ≤ p → p < length s.events → Before s p (length s.events)
  all p low less =
      let w = wide in
      ⊎_elim
      (λ (e : p ≡ length s.events). absurd (omega arith))
      (λ h. h)
      (last (predecessors_of s) (whole shape) 1 [] [] laid (closed_line shape synced_shape) (length s.events) p (omega (arith, w)) low (omega arith))

  writes : (p c v : ℕ) → word_step s p ≡ write c v → Writes (event_at s.events p) c × Accesses (event_at s.events p) c
  writes p c v is = let w = write_event s.events p (event_at s.events p) (predecessors_of s p) c v is in (subst (λ o. Writes o c) (sym w.1) refl, subst (λ o. Accesses o c) (sym w.1) refl)

  reads : (p c v : ℕ) → word_step s p ≡ read c v → Accesses (event_at s.events p) c
  reads p c v is = let w = read_event s.events p (event_at s.events p) (predecessors_of s p) c v is in subst (λ o. Accesses o c) (sym w.1) refl

  ranges : (p q : ℕ) → Conflict s p q → IsPosition s.events p × IsPosition s.events q
  ranges p q (c, v, w, inl h) = (inside p (λ z. (let x : write c v ≡ plain = sym h.0 ∙ z in cc x)), inside q (λ z. (let x : read c w ≡ plain = sym h.1 ∙ z in cc x)))
  ranges p q (c, v, w, inr (inl h)) = (inside p (λ z. (let x : read c w ≡ plain = sym h.0 ∙ z in cc x)), inside q (λ z. (let x : write c v ≡ plain = sym h.1 ∙ z in cc x)))
  ranges p q (c, v, w, inr (inr h)) = (inside p (λ z. (let x : write c v ≡ plain = sym h.0 ∙ z in cc x)), inside q (λ z. (let x : write c w ≡ plain = sym h.1 ∙ z in cc x)))

  abbrev cell_of : (p q : ℕ) → Conflict s p q → ℕ
  cell_of p q (c, v, w, h) = c

  clash : (p q : ℕ) (h : Conflict s p q) → (Writes (event_at s.events p) (cell_of p q h) × Accesses (event_at s.events q) (cell_of p q h)) ⊎ (Accesses (event_at s.events p) (cell_of p q h) × Writes (event_at s.events q) (cell_of p q h))
  clash p q (c, v, w, inl h) = inl ((writes p c v h.0).0, reads q c w h.1)
  clash p q (c, v, w, inr (inl h)) = inr (reads p c w h.0, (writes q c v h.1).0)
  clash p q (c, v, w, inr (inr h)) = inl ((writes p c v h.0).0, (writes q c w h.1).1)

  ordered : HasNoRace (tree shape) s.events → (p q : ℕ) → p < q → Conflict s p q → Before s p q
  ordered free p q less bad =
      let r = ranges p q bad in
      let i = r.0 in
      before p q ((before_is_reached shape s.events is_event_order.spells synced_shape p q r.0 r.1).0 (earlier_before shape s.events is_event_order.spells p q r.0 r.1 (record {
        less = less;
        apart = λ b. free p q (record {
          first = i.0;
          earlier = less;
          cell = cell_of p q bad;
          clash = clash p q bad;
          parallel = (beside_positions shape s.events is_event_order.spells p q r.0 r.1 less).1 b;
        });
      })))

  last_what : word_step s (length s.events) ≡ finish
  last_what =
      let w = wide in
      let e = ends_last (λ p. mark_at (event_at s.events p)) shape 2 (length s.events) (omega (arith, w)) marked in
      end_what s.events (length s.events) (event_at s.events (length s.events)) (predecessors_of s (length s.events)) e (eq-eqb (length s.events) (length s.events) refl)

  pub orderly : length s.events + 1 < 2 ^ 32 → length s.opening + length s.events + 1 < 2 ^ 34 → HasNoRace (tree shape) s.events → IsOrderly s
  orderly few small free = record {
    root = (first_what, let w = wide in omega (arith, w));
    none_ahead = λ e a. among_none (subst (Among e) laid.0 a);
    last = last_what;
    finished = λ p is. finish_at s.events p (event_at s.events p) (predecessors_of s p) is;
    inside = λ p h. inside p (λ e. subst IsWord e h);
    few = few;
    small = small;
    earlier = earlier;
    line = line;
    ordinary = ordinary;
    resumed = resumed;
    returns = back;
    once = once;
    no_race = ordered free;
    all = all;
  }

pub event_orders_are_orderly : EventOrdersAreOrderly
event_orders_are_orderly shape s is synced_shape few small free = orderly shape s is synced_shape few small free
