-- A seat is split, two seats are joined, and the first and the last state of a yard.
--
-- - `cut_along`, `told_along`, `reached_along`: the same events are done;
-- - `splits`: an empty seat comes;
-- - `was`, `parted_joined`, `kept_joined`, `joins`, `spans`, `joins_at`, `spans_at`: two seats
--   become one;
-- - `starts`, `up_first`, `first_sits`: the first state;
-- - `whole_run`: what the words say of the whole run.
use Rattle.std.proofs.Common.{◌≡◌, ◌≢◌, ◌⊎◌, ℕ, zero, suc, ◌+◌, ◌<◌, ◌≤◌, List, [], ◌∷◌, ◌++◌, length, get_or, set, inl, inr, ⊎_elim, refl, sym, ap, ◌∙◌, subst, arith, cond, ltb, length-append, replicate, map, pos}
use Rattle.std.proofs.lemmas.List.{length-replicate, get_or_append_left, get_or-append-add, get_or-replicate, length-map, get_or-map}
use Rattle.std.proofs.lemmas.Bool.{lt-ltb, le-ltb}
use mathlib.Core.Logic.{dite}
use mathlib.Core.Option.{some, some-injective, some-ne-none}
use native.Mathlib.Decide.{dec_le, dec_lt, ℕ_discrete}
use lib.ListN.{get_elem?}
use Rattle.atomic_table.specs.Table.{State, Me, Splits, Joins, opening}
use Rattle.atomic_table.proofs.Lists.{at_set, at_snoc, at_longer, set_again, set_here, set_else}
use Rattle.cilk_tree.specs.declared.event_order.EventOrder.{EventOrder}
use Rattle.cilk_shared.specs.declared.view.View.{View}
use Rattle.cilk_shared.specs.Rule.{view, In, Done, IsStart, Parted, IsCut, Told, HasReached, Kept, Cont, Over, cells, Sits, beside, spent, joined, Shows}
use Rattle.cilk_shared.specs.Rows.{spanned}
use Rattle.cilk_shared.proofs.Sets.{shows_along, word_of_write, word_of_spawn, word_of_resume, word_of_finish}
use Rattle.cilk_shared.proofs.Rows.{at_short, at_once, gap}
use Rattle.cilk_tree.specs.Word.{plain, spawn, word_step, predecessors_of, IsWord, finish, write, word}
use Rattle.cilk_tree.specs.Reach.{Among, direct, through}
use Rattle.cilk_tree.specs.Runs.{IsAsked, IsFollowed}
use Rattle.cilk_tree.specs.Orders.{IsOrderly}
use Rattle.cilk_tree.specs.Values.{HasValues}

-- the same events are done
module _ (s : EventOrder) (D E : ℕ → Type 0) (to : (q : ℕ) → IsWord (word_step s q) → D q → E q) (back : (q : ℕ) → IsWord (word_step s q) → E q → D q) where
  pub cut_along : IsCut s D → IsCut s E
  cut_along cut p q e wp wq b = to q wq (cut p q (back p wp e) wp wq b)

  pub reached_along : HasReached s D → HasReached s E
  reached_along reached k word e = reached k word (back k word e)

  cont_along : (p n : ℕ) → word_step s p ≡ spawn → Cont s D p n → Cont s E p n
  cont_along p n is (inl a) = inl (a.0, λ e. a.1 (back p (word_of_spawn (word_step s p) is) e))
  cont_along p n is (inr (inl a)) = inr (inl (a.0, to p (word_of_spawn (word_step s p) is) a.1, λ r is_r e. a.2 r is_r (back r (word_of_resume (word_step s r) p is_r) e)))
  cont_along p n is (inr (inr a)) = inr (inr (a.0, to p (word_of_spawn (word_step s p) is) a.1, λ r is_r. to r (word_of_resume (word_step s r) p is_r) (a.2 r is_r)))

  over_along : (n : ℕ) → Over s D n → Over s E n
  over_along n (inl a) = inl (a.0, λ q is e. a.1 q is (back q (word_of_finish (word_step s q) is) e))
  over_along n (inr a) = inr (a.0, λ q is. to q (word_of_finish (word_step s q) is) (a.1 q is))

  pub told_along : (words : List ℕ) → Told s D words → Told s E words
  told_along words t = record {
    wide = t.wide;
    each_cell = λ c lt. shows_along s D E c (get_or words c 0) (λ q v d w. to q (word_of_write (word_step s q) c v w) d) (λ q v e w. back q (word_of_write (word_step s q) c v w) e) (t.each_cell c lt);
    over = over_along (get_or words (cells s) 0) t.over;
    each_spawn = λ p is. cont_along p (get_or words (cells s + p) 0) is (t.each_spawn p is);
  }

-- an empty seat comes
pub splits : (s : EventOrder) (id : ℕ) (v : View) → Splits (Kept s) id v v (beside v)
splits s id v t kept at =
    let same : set t.views id v ≡ t.views = set_again t.views id v at in
    let more : List View = t.views ++ beside v ∷ [] in
    let old : (i : ℕ) (u : View) → get_elem? more i ≡ some u → u.from < u.upto → get_elem? t.views i ≡ some u = λ i u there some_done.
    ⊎_elim (λ x. x) (λ (is : beside v ≡ u). absurd (let none : u.upto ≡ 0 = ap (λ (y : View). y.upto) (sym is) in omega arith)) (at_snoc t.views (beside v) u i there) in
    let held : (i x : ℕ) (u : View) → get_elem? more i ≡ some u → In u x → get_elem? t.views i ≡ some u = λ i x u there inside. old i u there (omega (arith, inside.0, inside.1)) in
    let to : (q : ℕ) → IsWord (word_step s q) → Done t.views q → Done more q = λ q _ d. (d.0, d.1, at_longer t.views (beside v ∷ []) d.0 d.1 d.2, d.3) in
    let back : (q : ℕ) → IsWord (word_step s q) → Done more q → Done t.views q = λ q _ d. (d.0, d.1, held d.0 q d.1 d.2 d.3, d.3) in
    subst (λ vs. Kept s (record { words = t.words; homes = t.homes; views = vs ++ beside v ∷ [] })) (sym same)
    (record {
      parted = record {
        begins = λ i u there some_done. kept.parted.begins i u (old i u there some_done) some_done;
        apart = λ i j u w x one other a b. kept.parted.apart i j u w x (held i x u one a) (held j x w other b) a b;
      };
      cut = cut_along s (Done t.views) (Done more) to back kept.cut;
      told = told_along s (Done t.views) (Done more) to back t.words kept.told;
      reached = reached_along s (Done t.views) (Done more) to back kept.reached;
    })

-- what the views are once the seat id has the view b, and the seat other is spent
module _ (s : EventOrder) (views : List View) (parted : Parted s views) (id : ℕ) (v : View) (at : get_elem? views id ≡ some v) (other : ℕ) (w b : View) (apart : other ≢ id) (there : get_elem? views other ≡ some w) where
  final : List View
  final = set (set views id b) other spent

  pub was : (i : ℕ) (u : View) → u.from < u.upto → get_elem? (set (set views id b) other spent) i ≡ some u → ((i ≡ id) × (b ≡ u)) ⊎ ((i ≢ id) × (i ≢ other) × (get_elem? views i ≡ some u))
  was i u some_done e = ⊎_elim
      (λ (m : (i ≡ other) × (spent ≡ u)). absurd (let none : u.upto ≡ 0 = ap (λ (y : View). y.upto) (sym m.1) in omega arith))
      (λ (m : (i ≢ other) × (get_elem? (set views id b) i ≡ some u)). ⊎_elim (λ (k : (i ≡ id) × (b ≡ u)). inl k) (λ (k : (i ≢ id) × (get_elem? views i ≡ some u)). inr (k.0, m.0, k.1)) (at_set views id i b u m.1))
      (at_set (set views id b) other i spent u e)

  now_id : get_elem? (set (set views id b) other spent) id ≡ some b
  now_id = set_else (set views id b) other id spent (λ e. apart (sym e)) ∙ set_here views id b (at_short views id v at)

  now_else : (i : ℕ) (u : View) → i ≢ id → i ≢ other → get_elem? views i ≡ some u → get_elem? (set (set views id b) other spent) i ≡ some u
  now_else i u n m e = set_else (set views id b) other i spent m ∙ (set_else views id i b n ∙ e)

  module _ (covers : (x : ℕ) → In v x ⊎ In w x → In b x) (only : (x : ℕ) → IsWord (word_step s x) → In b x → In v x ⊎ In w x) (starts : b.from < b.upto → IsStart s b.from)
      (alone : (x i : ℕ) (u : View) → In b x → i ≢ id → i ≢ other → get_elem? views i ≡ some u → In u x → ⊥) where
    to : (q : ℕ) → IsWord (word_step s q) → Done views q → Done (set (set views id b) other spent) q
    to q _ (i, u, e, inside) = dite (ℕ_discrete i id)
        (λ (same : i ≡ id). (id, b, now_id, covers q (inl (subst (λ (y : View). In y q) (at_once views id u v (subst (λ k. get_elem? views k ≡ some u) same e) at) inside))))
        (λ (n : i ≢ id). dite (ℕ_discrete i other)
        (λ (same : i ≡ other). (id, b, now_id, covers q (inr (subst (λ (y : View). In y q) (at_once views other u w (subst (λ k. get_elem? views k ≡ some u) same e) there) inside))))
        (λ (m : i ≢ other). (i, u, now_else i u n m e, inside)))

    back : (q : ℕ) → IsWord (word_step s q) → Done (set (set views id b) other spent) q → Done views q
    back q word (i, u, e, inside) = ⊎_elim
        (λ (k : (i ≡ id) × (b ≡ u)). ⊎_elim (λ (x : In v q). (id, v, at, x)) (λ (x : In w q). (other, w, there, x)) (only q word (subst (λ (y : View). In y q) (sym k.1) inside)))
        (λ (k : (i ≢ id) × (i ≢ other) × (get_elem? views i ≡ some u)). (i, u, k.2, inside))
        (was i u (omega (arith, inside.0, inside.1)) e)

    pub parted_joined : Parted s (set (set views id b) other spent)
    parted_joined = record {
      begins = λ i u e some_done. ⊎_elim
          (λ (k : (i ≡ id) × (b ≡ u)). subst (λ (y : View). y.from < y.upto → IsStart s y.from) k.1 starts some_done)
          (λ (k : (i ≢ id) × (i ≢ other) × (get_elem? views i ≡ some u)). parted.begins i u k.2 some_done)
          (was i u some_done e);
      apart = λ i j u u' x e f a c. ⊎_elim
          (λ (k : (i ≡ id) × (b ≡ u)). ⊎_elim
          (λ (m : (j ≡ id) × (b ≡ u')). k.0 ∙ sym m.0)
          (λ (m : (j ≢ id) × (j ≢ other) × (get_elem? views j ≡ some u')). absurd (alone x j u' (subst (λ (y : View). In y x) (sym k.1) a) m.0 m.1 m.2 c))
          (was j u' (omega (arith, c.0, c.1)) f))
          (λ (k : (i ≢ id) × (i ≢ other) × (get_elem? views i ≡ some u)). ⊎_elim
          (λ (m : (j ≡ id) × (b ≡ u')). absurd (alone x i u (subst (λ (y : View). In y x) (sym m.1) c) k.0 k.1 k.2 a))
          (λ (m : (j ≢ id) × (j ≢ other) × (get_elem? views j ≡ some u')). parted.apart i j u u' x k.2 m.2 a c)
          (was j u' (omega (arith, c.0, c.1)) f))
          (was i u (omega (arith, a.0, a.1)) e);
    }

    pub kept_joined : (words : List ℕ) → IsCut s (Done views) → Told s (Done views) words → HasReached s (Done views) → (homes : List (mathlib.Core.Option.Option (Unit {0}))) → Kept s (record { words = words; homes = homes; views = set (set views id b) other spent })
    kept_joined words cut told reached homes = record {
      parted = parted_joined;
      cut = cut_along s (Done views) (Done (set (set views id b) other spent)) to back cut;
      told = told_along s (Done views) (Done (set (set views id b) other spent)) to back words told;
      reached = reached_along s (Done views) (Done (set (set views id b) other spent)) to back reached;
    }

-- two seats whose segments adjoin
abbrev pub Beside : ℕ → ℕ → ℕ → ℕ → Type 0
Beside a b c d = (b ≤ a) ⊎ (d ≤ c) ⊎ ((a < b) × (c < d) × (b ≡ c))

module _ (s : EventOrder) (law : IsOrderly s) (v w : View) (a b c d : ℕ) (mine : Sits s v a b) (theirs : Sits s w c d) where
  joined_left : v.upto ≤ v.from → joined v w ≡ view v.event_order w.from w.upto
  joined_left e = ap (λ k. cond k (cond (ltb w.from w.upto) (view v.event_order v.from w.upto) v) (view v.event_order w.from w.upto)) (le-ltb v.from v.upto e)

  joined_right : v.from < v.upto → w.upto ≤ w.from → joined v w ≡ v
  joined_right lt e = ap (λ k. cond k (cond (ltb w.from w.upto) (view v.event_order v.from w.upto) v) (view v.event_order w.from w.upto)) (lt-ltb v.from v.upto lt)
      ∙ ap (λ k. cond k (view v.event_order v.from w.upto) v) (le-ltb w.from w.upto e)

  joined_both : v.from < v.upto → w.from < w.upto → joined v w ≡ view v.event_order v.from w.upto
  joined_both lt lt' = ap (λ k. cond k (cond (ltb w.from w.upto) (view v.event_order v.from w.upto) v) (view v.event_order w.from w.upto)) (lt-ltb v.from v.upto lt)
      ∙ ap (λ k. cond k (view v.event_order v.from w.upto) v) (lt-ltb w.from w.upto lt')

  pub joins : Beside a b c d → (id other : ℕ) → Joins (Kept s) id v other w (joined v w) spent
  joins near id other t kept at apart there' =
      let there : get_elem? t.views other ≡ some w = ⊎_elim (λ (m : (other ≡ id) × (joined v w ≡ w)). absurd (apart m.0)) (λ (m : (other ≢ id) × (get_elem? t.views other ≡ some w)). m.1) (at_set t.views id other (joined v w) w there') in
      let Goal : View → Type 0 = λ u. Kept s (record { words = t.words; homes = t.homes; views = set (set t.views id u) other spent }) in
      let make : (u : View) → ((x : ℕ) → In v x ⊎ In w x → In u x) → ((x : ℕ) → IsWord (word_step s x) → In u x → In v x ⊎ In w x) → (u.from < u.upto → IsStart s u.from) → ((x i : ℕ) (y : View) → In u x → i ≢ id → i ≢ other → get_elem? t.views i ≡ some y → In y x → ⊥) → Goal u
      = λ u covers only starts alone. kept_joined s t.views kept.parted id v at other w u apart there covers only starts alone t.words kept.cut kept.told kept.reached t.homes in
      let empty_v : v.upto ≤ v.from → Goal (joined v w) = λ e. subst Goal (sym (joined_left e)) (make (view v.event_order w.from w.upto)
      (λ x i. ⊎_elim (λ (m : In v x). absurd (omega (arith, m.0, m.1))) (λ (m : In w x). (m.0, m.1)) i)
      (λ x _ i. inr (i.0, i.1))
      (λ lt. kept.parted.begins other w there lt)
      (λ x i y inside n m e k. m (kept.parted.apart i other y w x e there k (inside.0, inside.1)))) in
      let full_v : v.from < v.upto → w.upto ≤ w.from → Goal (joined v w) = λ lt e. subst Goal (sym (joined_right lt e)) (make v
      (λ x i. ⊎_elim (λ (m : In v x). m) (λ (m : In w x). absurd (omega (arith, m.0, m.1))) i)
      (λ x _ i. inl i)
      (λ lt'. kept.parted.begins id v at lt')
      (λ x i y inside n m f k. n (kept.parted.apart i id y v x f at k inside))) in
      dite (dec_lt v.from v.upto)
      (λ (lt : v.from < v.upto). dite (dec_lt w.from w.upto)
      (λ (lt' : w.from < w.upto).
      let ab : a < b = dite (dec_le b a) (λ (e : b ≤ a). absurd (let z = mine.empty e in omega arith)) (λ no. omega arith) in
      let cd : c < d = dite (dec_le d c) (λ (e : d ≤ c). absurd (let z = theirs.empty e in omega arith)) (λ no. omega arith) in
      let f = mine.from ab in
      let g = theirs.from cd in
      let meet : b ≡ c = ⊎_elim (λ (e : b ≤ a). absurd (omega arith)) (λ (r : (d ≤ c) ⊎ ((a < b) × (c < d) × (b ≡ c))). ⊎_elim (λ (e : d ≤ c). absurd (omega arith)) (λ (q : (a < b) × (c < d) × (b ≡ c)). q.2) r) near in
      subst Goal (sym (joined_both lt lt')) (make (view v.event_order v.from w.upto)
      (λ x i. ⊎_elim (λ (m : In v x). (m.0, omega (arith, m.1, f.2, g.0, g.1))) (λ (m : In w x). (omega (arith, m.0, f.0, g.0, f.1), m.1)) i)
      (λ x word i. dite (dec_lt x v.upto)
      (λ (in_v : x < v.upto). inl (i.0, in_v))
      (λ no. dite (dec_lt x b)
      (λ (in_gap : x < b). absurd (mine.rest x (omega arith) in_gap ab word))
      (λ nor. inr (omega (arith, g.0), i.1))))
      (λ _. kept.parted.begins id v at lt)
      (λ x i y inside n m e k. dite (dec_lt x v.upto)
      (λ (in_v : x < v.upto). n (kept.parted.apart i id y v x e at k (inside.0, in_v)))
      (λ no. dite (dec_lt x b)
      (λ (in_gap : x < b). gap s t.views kept.parted id v at a b mine ab i x y n e k (omega arith) in_gap)
      (λ nor. m (kept.parted.apart i other y w x e there k (omega (arith, g.0), inside.1)))))))
      (λ no. full_v lt (omega arith)))
      (λ no. empty_v (omega arith))

-- the segment of two that adjoin
spans : (s : EventOrder) (law : IsOrderly s) (v w : View) (a b c d : ℕ) → Sits s v a b → Sits s w c d → Beside a b c d → Sits s (joined v w) (spanned a b c d).0 (spanned a b c d).1
spans s law v w a b c d mine theirs near = dite (dec_lt a b)
    (λ (ab : a < b).
    let f = mine.from ab in
    let lt : v.from < v.upto = omega (arith, f.0, f.1) in
    dite (dec_lt c d)
    (λ (cd : c < d).
    let g = theirs.from cd in
    let lt' : w.from < w.upto = omega (arith, g.0, g.1) in
    let meet : b ≡ c = ⊎_elim (λ (e : b ≤ a). absurd (omega arith)) (λ (r : (d ≤ c) ⊎ ((a < b) × (c < d) × (b ≡ c))). ⊎_elim (λ (e : d ≤ c). absurd (omega arith)) (λ (q : (a < b) × (c < d) × (b ≡ c)). q.2) r) near in
    let it : Sits s (view v.event_order v.from w.upto) a d = record {
      event_order = mine.event_order;
      empty = λ e. absurd (omega arith);
      from = λ _. (f.0, omega (arith, g.1), g.2);
      rest = λ q le l _ word. theirs.rest q le l cd word;
      whole = λ x le l. dite (dec_lt x b)
          (λ (in_v : x < b). mine.whole x le in_v)
          (λ no. ⊎_elim (λ r. inl r) (λ (r : (e : ℕ) → Among e (predecessors_of s x) → c ≤ e). inr (λ e m. let low = r e m in omega arith)) (theirs.whole x (omega arith) l));
      known = λ x le l. dite (dec_lt x b) (λ (in_v : x < b). mine.known x le in_v) (λ no. theirs.known x (omega arith) l);
    } in
    subst (λ (r : ℕ × ℕ). Sits s (joined v w) r.0 r.1) (sym (pair_both ab cd)) (subst (λ u. Sits s u a d) (sym (joined_both s law v w a b c d mine theirs lt lt')) it))
    (λ no.
    let cd : d ≤ c = omega arith in
    subst (λ (r : ℕ × ℕ). Sits s (joined v w) r.0 r.1) (sym (pair_left ab cd)) (subst (λ u. Sits s u a b) (sym (joined_right s law v w a b c d mine theirs lt (theirs.empty cd))) mine)))
    (λ no.
    let ba : b ≤ a = omega arith in
    let it : Sits s (view v.event_order w.from w.upto) c d = record { event_order = mine.event_order; empty = theirs.empty; from = theirs.from; rest = theirs.rest; whole = theirs.whole; known = theirs.known } in
    subst (λ (r : ℕ × ℕ). Sits s (joined v w) r.0 r.1) (sym (pair_right ba)) (subst (λ u. Sits s u c d) (sym (joined_left s law v w a b c d mine theirs (mine.empty ba))) it))
  where
    pair_both : a < b → c < d → spanned a b c d ≡ (a, d)
    pair_both ab cd = ap (λ k. cond k (cond (ltb c d) (a, d) (a, b)) (c, d)) (lt-ltb a b ab) ∙ ap (λ k. cond k (a, d) (a, b)) (lt-ltb c d cd)

    pair_left : a < b → d ≤ c → spanned a b c d ≡ (a, b)
    pair_left ab dc = ap (λ k. cond k (cond (ltb c d) (a, d) (a, b)) (c, d)) (lt-ltb a b ab) ∙ ap (λ k. cond k (a, d) (a, b)) (le-ltb c d dc)

    pair_right : b ≤ a → spanned a b c d ≡ (c, d)
    pair_right ba = ap (λ k. cond k (cond (ltb c d) (a, d) (a, b)) (c, d)) (le-ltb a b ba)

-- the same of seats as segments have them
module _ (s : EventOrder) (law : IsOrderly s) (me you : Me (Unit {0}) View) (same : me.0.event_order ≡ s) (same' : you.0.event_order ≡ s) (a b c d : ℕ) (mine : Sits me.0.event_order me.0 a b) (theirs : Sits you.0.event_order you.0 c d) (near : Beside a b c d) where
  ours : Sits s me.0 a b
  ours = subst (λ z. Sits z me.0 a b) same mine

  yours : Sits s you.0 c d
  yours = subst (λ z. Sits z you.0 c d) same' theirs

  pub joins_at : (id other : ℕ) → Joins (Kept s) id me.0 other you.0 (joined me.0 you.0) spent
  joins_at id other = joins s law me.0 you.0 a b c d ours yours near id other

  event_order_joined : (joined me.0 you.0).event_order ≡ me.0.event_order
  event_order_joined = dite (dec_lt me.0.from me.0.upto)
      (λ (lt : me.0.from < me.0.upto). dite (dec_lt you.0.from you.0.upto)
      (λ (lt' : you.0.from < you.0.upto). ap (λ (u : View). u.event_order) (joined_both s law me.0 you.0 a b c d ours yours lt lt'))
      (λ no. ap (λ (u : View). u.event_order) (joined_right s law me.0 you.0 a b c d ours yours lt (omega arith))))
      (λ no. ap (λ (u : View). u.event_order) (joined_left s law me.0 you.0 a b c d ours yours (omega arith)))

  pub spans_at : (r : ℕ × ℕ) → r ≡ spanned a b c d → (m : Me (Unit {0}) View) → m ≡ (joined me.0 you.0, me.1) → me.1 ≡ [] → (m.1 ≡ []) × (m.0.event_order ≡ me.0.event_order) × Sits m.0.event_order m.0 r.0 r.1
  spans_at r range m is bare =
      let e : m.0.event_order ≡ me.0.event_order = ap (λ k. k.0.event_order) is ∙ event_order_joined in (
        ap (λ k. k.1) is ∙ bare,
        e,
        subst (λ z. Sits z m.0 r.0 r.1) (sym (e ∙ same)) (subst (λ u. Sits s u r.0 r.1) (sym (ap (λ k. k.0) is)) (subst (λ (q : ℕ × ℕ). Sits s (joined me.0 you.0) q.0 q.1) (sym range) (spans s law me.0 you.0 a b c d ours yours near))),
      )

-- the first event alone
first_in : (x : ℕ) → 1 ≤ x → x < 2 → x ≡ 1
first_in x le lt = omega arith

pub starts : (s : EventOrder) (law : IsOrderly s) (words : List ℕ) → words ≡ map word s.opening ++ replicate (length s.events + 1) 0 → Kept s (opening words [] (view s 1 2))
starts s law words is =
    let views : List View = view s 1 2 ∷ [] in
    let zeros : List ℕ = replicate (length s.events + 1) 0 in
    let values : List ℕ = map word s.opening in
    let wide : length values ≡ length s.opening = length-map s.opening word in
    let only : (i : ℕ) (u : View) → get_elem? views i ≡ some u → (i ≡ 0) × (view s 1 2 ≡ u) = only_one (view s 1 2) in
    let one_done : (q : ℕ) → Done views q → q ≡ 1 = λ q d. first_in q (subst (λ (u : View). u.from ≤ q) (sym (only d.0 d.1 d.2).1) d.3.0) (subst (λ (u : View). q < u.upto) (sym (only d.0 d.1 d.2).1) d.3.1) in
    let quiet : (q : ℕ) → Done views q → word_step s q ≡ plain = λ q d. ap (λ j. word_step s j) (one_done q d) ∙ law.root.0 in
    let past : (i : ℕ) → i < length s.events + 1 → get_or words (cells s + i) 0 ≡ 0 = λ i lt.
    ap (λ ws. get_or ws (cells s + i) 0) is ∙ ap (λ k. get_or (values ++ zeros) (k + i) 0) (sym wide) ∙ get_or-append-add values zeros i 0 ∙ get_or-replicate (length s.events + 1) i 0 0 lt in
    record {
      parted = record {
        begins = λ i u there _. let e : u.from ≡ 1 = ap (λ (k : View). k.from) (sym (only i u there).1) in (omega arith, inl e);
        apart = λ i j u w x one other _ _. (only i u one).0 ∙ sym (only j w other).0;
      };
      cut = λ p q d step _ _. absurd (subst IsWord (quiet p d) step);
      told = record {
        wide = ap length is ∙ length-append values zeros ∙ (let e = wide in let l = length-replicate {A = ℕ} (length s.events + 1) 0 in omega (arith, e, l));
        each_cell = λ c lt. inl (
          ap (λ ws. get_or ws c 0) is ∙ get_or_append_left values zeros 0 c (let e = wide in omega (arith, e, lt)) ∙ get_or-map word s.opening c (pos 0) 0 lt,
          λ q v d w. absurd (let z : plain ≡ write c v = sym (quiet q d) ∙ w in cc z),
        );
        over = inl ((let z : cells s ≡ cells s + 0 = omega arith in ap (λ i. get_or words i 0) z ∙ past 0 (omega arith)), λ q f d. absurd (let z : plain ≡ finish = sym (quiet q d) ∙ f in cc z));
        each_spawn = λ p at. inl (
          past p (let i = (law.inside p (word_of_spawn (word_step s p) at)).1 in omega (arith, i)),
          λ d. absurd (let z : plain ≡ spawn = sym (quiet p d) ∙ at in cc z),
        );
      };
      reached = λ k step d. absurd (subst IsWord (quiet k d) step);
    }
  where
    only_one : (v : View) (i : ℕ) (u : View) → get_elem? (v ∷ []) i ≡ some u → (i ≡ 0) × (v ≡ u)
    only_one v zero u e = (refl, some-injective v u e)
    only_one v (suc i) u e = absurd (some-ne-none u (sym e))

-- nothing comes before the first event
none_first : (s : EventOrder) → IsOrderly s → (e : ℕ) → Among e (predecessors_of s 1) → ⊥
none_first s law e there = law.none_ahead e there

up_first : (s : EventOrder) → IsOrderly s → HasValues s → IsFollowed s 1
up_first s law values q (inl same) = subst (λ j. IsAsked s j) (sym same) values.begins
up_first s law values q (inr (direct there)) = absurd (none_first s law q there)
up_first s law values q (inr (through {e = e} b there)) = absurd (none_first s law e there)

pub first_sits : (s : EventOrder) → IsOrderly s → HasValues s → Sits s (view s 1 2) 1 2
first_sits s law values = record {
  event_order = refl;
  empty = λ e. e;
  from = λ _. (refl, omega arith, omega arith);
  rest = λ q le lt _ _. omega arith;
  whole = λ x le lt. inr (λ e there. absurd (none_first s law e (subst (λ j. Among e (predecessors_of s j)) (first_in x le lt) there)));
  known = λ x le lt. subst (λ j. IsFollowed s j) (sym (first_in x le lt)) (up_first s law values);
}

-- what the words say of the whole run
pub whole_run : (s : EventOrder) (law : IsOrderly s) (me : Me (Unit {0}) View) (same : me.0.event_order ≡ s) (n : ℕ) → Sits me.0.event_order me.0 1 n → n ≡ length s.events + 1 → 1 < n → (id : ℕ) (t : State (Unit {0}) View) → Kept s t → get_elem? t.views id ≡ some me.0
    → (c : ℕ) → c < cells s → Shows s (λ q. Unit {0}) c (get_or t.words c 0)
whole_run s law me same n sits all some_done id t kept at c small =
    shows_along s (Done t.views) (λ q. Unit {0}) c (get_or t.words c 0)
    (λ q v d w. tt)
    (λ q v _ w.
    let step : IsWord (word_step s q) = word_of_write (word_step s q) c v w in
    let low = law.inside q step in
    let f = sits.from some_done in
    dite (dec_lt q me.0.upto)
    (λ (lt : q < me.0.upto). (id, me.0, at, (omega (arith, f.0, low.0), lt)))
    (λ no. absurd (sits.rest q (omega arith) (omega (arith, low.1)) some_done (subst (λ z. IsWord (word_step z q)) (sym same) step))))
    (kept.told.each_cell c small)
