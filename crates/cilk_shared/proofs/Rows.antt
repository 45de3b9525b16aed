-- The views of the seats after a step.
--
-- - `at_short`, `at_once`: a seat has one view;
-- - `done_into`, `done_here`, `done_keep`, `parted_set`: one view grows;
-- - `past`, `gap`, `fresh_line`: no other seat has a segment's next event, or an event between its
--   view and that;
-- - `reach`, `ready_line`: what comes before an event of a segment, and before its next one, is
--   done.
use Rattle.std.proofs.Common.{◌≡◌, ◌≢◌, ◌⊎◌, ℕ, zero, suc, ◌-◌, ◌<◌, ◌≤◌, List, [], ◌∷◌, length, set, inl, inr, ⊎_elim, sym, ◌∙◌, subst, arith}
use mathlib.Core.Logic.{dite}
use mathlib.Core.Option.{some, some-injective, some-ne-none}
use native.Mathlib.Decide.{dec_le, dec_lt, ℕ_discrete}
use lib.ListN.{get_elem?}
use Rattle.atomic_table.proofs.Lists.{at_set, set_here, set_else}
use Rattle.cilk_tree.specs.declared.event_order.EventOrder.{EventOrder}
use Rattle.cilk_shared.specs.declared.view.View.{View}
use Rattle.cilk_shared.specs.Rule.{In, Done, IsStart, Parted, IsCut, Sits}
use Rattle.cilk_shared.proofs.Sets.{word_of_resume}
use Rattle.cilk_tree.specs.Word.{resume, word_step, predecessors_of, Before, IsWord, IsLine}
use Rattle.cilk_tree.specs.Reach.{Among, direct, through}
use Rattle.cilk_tree.specs.Orders.{IsOrderly}

pub at_short : {A : Type 0} (l : List A) (i : ℕ) (a : A) → get_elem? l i ≡ some a → i < length l
at_short [] i a e = absurd (some-ne-none a (sym e))
at_short (x ∷ xs) zero a e = omega arith
at_short (x ∷ xs) (suc i) a e = let r = at_short xs i a e in omega arith

-- one seat has one view
pub at_once : {A : Type 0} (l : List A) (i : ℕ) (a b : A) → get_elem? l i ≡ some a → get_elem? l i ≡ some b → a ≡ b
at_once l i a b e f = some-injective a b (sym e ∙ f)

module _ (s : EventOrder) (views : List View) (parted : Parted s views) (id : ℕ) (v : View) (at : get_elem? views id ≡ some v) where
  -- the view v becomes w
  module _ (w : View) (grows : (x : ℕ) → In v x → In w x) where
    pub done_into : (x : ℕ) → Done (set views id w) x → Done views x ⊎ In w x
    done_into x (i, u, there, inside) = ⊎_elim
        (λ (m : (i ≡ id) × (w ≡ u)). inr (subst (λ (y : View). In y x) (sym m.1) inside))
        (λ (m : (i ≢ id) × (get_elem? views i ≡ some u)). inl (i, u, m.1, inside))
        (at_set views id i w u there)

    pub done_here : (x : ℕ) → In w x → Done (set views id w) x
    done_here x inside = (id, w, set_here views id w (at_short views id v at), inside)

    pub done_keep : (x : ℕ) → Done views x → Done (set views id w) x
    done_keep x (i, u, there, inside) = dite (ℕ_discrete i id)
        (λ (same : i ≡ id). let is : u ≡ v = at_once views id u v (subst (λ k. get_elem? views k ≡ some u) same there) at in done_here x (grows x (subst (λ (y : View). In y x) is inside)))
        (λ (other : i ≢ id). (i, u, set_else views id i w other ∙ there, inside))

    pub parted_set : (w.from < w.upto → IsStart s w.from) → ((x i : ℕ) (u : View) → In w x → i ≢ id → get_elem? views i ≡ some u → In u x → ⊥) → Parted s (set views id w)
    parted_set starts alone = record {
      begins = λ i u there. ⊎_elim (λ (m : (i ≡ id) × (w ≡ u)). subst (λ (y : View). y.from < y.upto → IsStart s y.from) m.1 starts) (λ (m : (i ≢ id) × (get_elem? views i ≡ some u)). parted.begins i u m.1) (at_set views id i w u there);
      apart = λ i j u u' x one other a b. ⊎_elim
          (λ (m : (i ≡ id) × (w ≡ u)). ⊎_elim
          (λ (k : (j ≡ id) × (w ≡ u')). m.0 ∙ sym k.0)
          (λ (k : (j ≢ id) × (get_elem? views j ≡ some u')). absurd (alone x j u' (subst (λ (y : View). In y x) (sym m.1) a) k.0 k.1 b))
          (at_set views id j w u' other))
          (λ (m : (i ≢ id) × (get_elem? views i ≡ some u)). ⊎_elim
          (λ (k : (j ≡ id) × (w ≡ u')). absurd (alone x i u (subst (λ (y : View). In y x) (sym k.1) b) m.0 m.1 a))
          (λ (k : (j ≢ id) × (get_elem? views j ≡ some u')). parted.apart i j u u' x m.1 k.1 a b)
          (at_set views id j w u' other))
          (at_set views id i w u one);
    }

  -- a range of another seat that holds a later event than all of v begins at a resumption, past v
  pub past : (some_done : v.from < v.upto) (i x : ℕ) (u : View) → i ≢ id → get_elem? views i ≡ some u → In u x → v.upto ≤ x → (v.upto ≤ u.from) × IsWord (word_step s u.from)
  past some_done i x u other there inside le =
      let low = (parted.begins id v at some_done).0 in
      dite (dec_le v.upto u.from)
      (λ (far : v.upto ≤ u.from). (
        far,
        ⊎_elim
            (λ (z : u.from ≡ 1). absurd (omega arith))
            (λ (r : (q : ℕ) × (word_step s u.from ≡ resume q)). word_of_resume (word_step s u.from) r.0 r.1)
            (parted.begins i u there (omega (arith, inside.0, inside.1))).1,
      ))
      (λ not. let last : ℕ = v.upto - 1 in
      let mine : In v last = (omega arith, omega arith) in
      let theirs : In u last = (omega (arith, inside.0, inside.1), omega (arith, inside.0, inside.1)) in
      absurd (other (parted.apart i id u v last there at theirs mine)))

  module _ (a p : ℕ) (sits : Sits s v a p) (some_done : a < p) where
    -- the events between v and p are no one else's
    pub gap : (i x : ℕ) (u : View) → i ≢ id → get_elem? views i ≡ some u → In u x → v.upto ≤ x → x < p → ⊥
    gap i x u other there inside le lt =
        let f = sits.from some_done in
        let g = past (omega (arith, f.0, f.1)) i x u other there inside le in
        sits.rest u.from g.0 (omega (arith, inside.0)) some_done g.1

    -- an event at p that is no resumption is not done yet
    pub fresh_line : ((q : ℕ) → word_step s p ≡ resume q → ⊥) → (i : ℕ) (u : View) → get_elem? views i ≡ some u → In u p → ⊥
    fresh_line line i u there inside = dite (ℕ_discrete i id)
        (λ (same : i ≡ id). let is : u ≡ v = at_once views id u v (subst (λ k. get_elem? views k ≡ some u) same there) at in
        let f = sits.from some_done in
        let mine : In v p = subst (λ (y : View). In y p) is inside in omega (arith, f.2, mine.1))
        (λ (other : i ≢ id).
        let f = sits.from some_done in
        let g = past (omega (arith, f.0, f.1)) i p u other there inside (omega (arith, f.2)) in
        let low = (parted.begins id v at (omega (arith, f.0, f.1))).0 in
        dite (ℕ_discrete u.from p)
        (λ (here : u.from ≡ p). ⊎_elim
        (λ (z : u.from ≡ 1). absurd (omega (arith, f.0, some_done)))
        (λ (r : (q : ℕ) × (word_step s u.from ≡ resume q)). line r.0 (subst (λ k. word_step s k ≡ resume r.0) here r.1))
        (parted.begins i u there (omega (arith, inside.0, inside.1))).1)
        (λ (away : u.from ≢ p). sits.rest u.from g.0 (omega (arith, inside.0)) some_done g.1))

    done_within : (q : ℕ) → a ≤ q → q < p → IsWord (word_step s q) → Done views q
    done_within q le lt word = let f = sits.from some_done in
        dite (dec_lt q v.upto)
        (λ (in_v : q < v.upto). (id, v, at, (omega (arith, f.0), in_v)))
        (λ not. absurd (sits.rest q (omega arith) lt some_done word))

    module _ (law : IsOrderly s) (cut : IsCut s (Done views)) where
      -- what comes before an event of the segment is done
      pub reach : {q x : ℕ} → Before s q x → a ≤ x → x < p → IsWord (word_step s q) → Done views q
      reach {q} {x} (direct there) le lt word = ⊎_elim
          (λ (r : (k : ℕ) × (word_step s x ≡ resume k)). cut x q (done_within x le lt (word_of_resume (word_step s x) r.0 r.1)) (word_of_resume (word_step s x) r.0 r.1) word (direct there))
          (λ (inner : (e : ℕ) → Among e (predecessors_of s x) → a ≤ e). let lower = law.earlier x q there in done_within q (inner q there) (omega arith) word)
          (sits.whole x le lt)
      reach {q} {x} (through {e = e} b there) le lt word = ⊎_elim
          (λ (r : (k : ℕ) × (word_step s x ≡ resume k)). cut x q (done_within x le lt (word_of_resume (word_step s x) r.0 r.1)) (word_of_resume (word_step s x) r.0 r.1) word (through b there))
          (λ (inner : (e : ℕ) → Among e (predecessors_of s x) → a ≤ e). let lower = law.earlier x e there in reach b (inner e there) (omega arith) word)
          (sits.whole x le lt)

      -- what comes before the next event is done
      pub ready_line : IsLine (word_step s p) → {q : ℕ} → IsWord (word_step s q) → Before s q p → Done views q
      ready_line line {q} word (direct there) = let near = law.line p line q there in done_within q (omega arith) (omega arith) word
      ready_line line {q} word (through {e = e} b there) = let near = law.line p line e there in reach b (omega arith) (omega arith) word
