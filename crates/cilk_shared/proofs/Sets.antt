-- The words after a step, for the events done, a predicate D of positions.
--
-- - `word_of_read` and so on: what is a step on a word;
-- - `shows_once`, `shows_along`: a cell has one word, and only its writes count;
-- - `below`, `found`: a done access that conflicts with a step comes before it, so what a load
--   finds is the run's own word;
-- - `cut_more`, `shows_more`, `shows_written`, `cont_more`, `over_more`, `cont_opened`,
--   `cont_taken`: one step more is done;
-- - `told_read`, `told_written`, `told_opened`, `told_taken`, `told_finished`: the words after a
--   step of each kind.
use Rattle.std.proofs.Common.{◌≡◌, ◌≢◌, ◌⊎◌, ℕ, ◌+◌, ◌<◌, ◌≤◌, List, length, get_or, set, inl, inr, ⊎_elim, refl, sym, ap, ◌∙◌, subst, arith, length-set, get_or-set_same, get_or-set_other}
use mathlib.Core.Logic.{dite}
use native.Mathlib.Decide.{dec_le, ℕ_discrete}
use Rattle.cilk_tree.specs.declared.event_order.EventOrder.{EventOrder}
use Rattle.cilk_shared.specs.Rule.{Cont, cells, Told, IsCut, Shows, Over}
use Rattle.cilk_tree.specs.Word.{WordEvent, read, write, spawn, resume, word_step, Before, IsWord, Conflict, finish}
use Rattle.cilk_tree.specs.Reach.{direct}
use Rattle.cilk_tree.specs.Orders.{IsOrderly}

pub word_of_read : (e : WordEvent) (c v : ℕ) → e ≡ read c v → IsWord e
word_of_read e c v is = subst IsWord (sym is) tt

pub word_of_write : (e : WordEvent) (c v : ℕ) → e ≡ write c v → IsWord e
word_of_write e c v is = subst IsWord (sym is) tt

pub word_of_spawn : (e : WordEvent) → e ≡ spawn → IsWord e
word_of_spawn e is = subst IsWord (sym is) tt

pub word_of_resume : (e : WordEvent) (q : ℕ) → e ≡ resume q → IsWord e
word_of_resume e q is = subst IsWord (sym is) tt

pub word_of_finish : (e : WordEvent) → e ≡ finish → IsWord e
word_of_finish e is = subst IsWord (sym is) tt

-- two events do not give a cell two values
pub shows_once : (s : EventOrder) (D : ℕ → Type 0) (c n m : ℕ) → Shows s D c n → Shows s D c m → n ≡ m
shows_once s D c n m (inl a) (inl b) = a.0 ∙ sym b.0
shows_once s D c n m (inl a) (inr b) = absurd (a.1 b.0 m b.1 b.2)
shows_once s D c n m (inr a) (inl b) = absurd (b.1 a.0 n a.1 a.2)
shows_once s D c n m (inr a) (inr b) =
    let one : b.0 ≤ a.0 = a.3 b.0 m b.1 b.2 in
    let other : a.0 ≤ b.0 = b.3 a.0 n a.1 a.2 in
    let same : a.0 ≡ b.0 = omega arith in
    let at : word_step s a.0 ≡ write c m = ap (λ k. word_step s k) same ∙ b.2 in
    cc (sym a.2 ∙ at)

-- only the writes of the cell count
pub shows_along : (s : EventOrder) (D E : ℕ → Type 0) (c n : ℕ) → ((q v : ℕ) → D q → word_step s q ≡ write c v → E q) → ((q v : ℕ) → E q → word_step s q ≡ write c v → D q) → Shows s D c n → Shows s E c n
shows_along s D E c n f g (inl a) = inl (a.0, λ q v e w. a.1 q v (g q v e w) w)
shows_along s D E c n f g (inr a) = inr (a.0, f a.0 n a.1 a.2, a.2, λ r v e w. a.3 r v (g r v e w) w)

module _ (s : EventOrder) (law : IsOrderly s) (D : ℕ → Type 0) (cut : IsCut s D) (p : ℕ) (fresh : D p → ⊥) where
  -- a done event that races with p, if they were parallel, comes before it
  pub below : (q : ℕ) → D q → IsWord (word_step s p) → IsWord (word_step s q) → (p < q → Conflict s p q) → q ≤ p
  below q d wp wq clash = dite (dec_le q p) (λ le. le) (λ not.
      let lt : p < q = omega arith in absurd (fresh (cut q p d wq wp (law.no_race p q lt (clash lt)))))

  module _ (ready : (q : ℕ) → IsWord (word_step s q) → Before s q p → D q) where
    -- what a load finds is the value in the serial run
    pub found : (c n v : ℕ) → word_step s p ≡ read c v → Shows s (λ q. q < p) c v → Shows s D c n → n ≡ v
    found c n v is serial shows = shows_once s (λ q. q < p) c n v
        (shows_along s D (λ q. q < p) c n
        (λ q w d is_w.
        let le : q ≤ p = below q d (word_of_read (word_step s p) c v is) (word_of_write (word_step s q) c w is_w) (λ _. (c, w, v, inr (inl (is, is_w)))) in
        dite (ℕ_discrete q p)
        (λ (same : q ≡ p). let both : read c v ≡ write c w = sym is ∙ ap (λ k. word_step s k) (sym same) ∙ is_w in absurd (cc both))
        (λ (other : q ≢ p). omega arith))
        (λ q w lt is_w. ready q (word_of_write (word_step s q) c w is_w) (law.no_race q p lt (c, w, v, inl (is_w, is))))
        shows)
        serial

    module _ (E : ℕ → Type 0) (into : (q : ℕ) → IsWord (word_step s q) → E q → D q ⊎ (q ≡ p)) (keep : (q : ℕ) → D q → E q) (here : E p) where
      pub cut_more : IsCut s E
      cut_more x q e wx wq b = ⊎_elim (λ (d : D x). keep q (cut x q d wx wq b)) (λ (same : x ≡ p). keep q (ready q wq (subst (λ k. Before s q k) same b))) (into x wx e)

      -- a cell that p does not write
      pub shows_more : (c n : ℕ) → ((v : ℕ) → word_step s p ≡ write c v → ⊥) → Shows s D c n → Shows s E c n
      shows_more c n not = shows_along s D E c n
          (λ q v d w. keep q d)
          (λ q v e w. ⊎_elim (λ (d : D q). d) (λ (same : q ≡ p). absurd (not v (ap (λ k. word_step s k) (sym same) ∙ w))) (into q (word_of_write (word_step s q) c v w) e))

      -- the cell that p writes
      pub shows_written : (c v : ℕ) → word_step s p ≡ write c v → Shows s E c v
      shows_written c v is = inr (
        p,
        here,
        is,
        λ r w e is_w.
            ⊎_elim
            (λ (d : D r). below r d (word_of_write (word_step s p) c v is) (word_of_write (word_step s r) c w is_w) (λ _. (c, v, w, inr (inr (is, is_w)))))
            (λ (same : r ≡ p). omega arith)
            (into r (word_of_write (word_step s r) c w is_w) e),
      )

      -- a continuation that p neither opens nor takes
      pub cont_more : (k n : ℕ) → word_step s k ≡ spawn → k ≢ p → (word_step s p ≡ resume k → ⊥) → Cont s D k n → Cont s E k n
      cont_more k n is other not (inl a) = inl (a.0, λ e. ⊎_elim (λ (d : D k). a.1 d) (λ (same : k ≡ p). other same) (into k (word_of_spawn (word_step s k) is) e))
      cont_more k n is other not (inr (inl a)) = inr (inl (
        a.0,
        keep k a.1,
        λ r is_r e.
            ⊎_elim (λ (d : D r). a.2 r is_r d) (λ (same : r ≡ p). not (ap (λ j. word_step s j) (sym same) ∙ is_r)) (into r (word_of_resume (word_step s r) k is_r) e),
      ))
      cont_more k n is other not (inr (inr a)) = inr (inr (a.0, keep k a.1, λ r is_r. keep r (a.2 r is_r)))

      -- the word of the end, where p isn't it
      pub over_more : (n : ℕ) → (word_step s p ≡ finish → ⊥) → Over s D n → Over s E n
      over_more n not (inl a) = inl (
        a.0,
        λ q is e.
            ⊎_elim (λ (d : D q). a.1 q is d) (λ (same : q ≡ p). not (ap (λ k. word_step s k) (sym same) ∙ is)) (into q (word_of_finish (word_step s q) is) e),
      )
      over_more n not (inr a) = inr (a.0, λ q is. keep q (a.1 q is))

      -- the continuation that p opens
      pub cont_opened : word_step s p ≡ spawn → Cont s E p 1
      cont_opened is = inr (inl (
        refl,
        here,
        λ r is_r e.
            ⊎_elim
            (λ (d : D r). fresh (cut r p d (word_of_resume (word_step s r) p is_r) (word_of_spawn (word_step s p) is) (direct (law.resumed r p is_r).1)))
            (λ (same : r ≡ p). let both : spawn ≡ resume p = sym is ∙ ap (λ j. word_step s j) (sym same) ∙ is_r in absurd (cc both))
            (into r (word_of_resume (word_step s r) p is_r) e),
      ))

      -- the continuation that p takes
      pub cont_taken : (k : ℕ) → word_step s p ≡ resume k → Cont s E k 2
      cont_taken k is =
          let r = law.resumed p k is in
          inr (inr (refl, keep k (ready k (word_of_spawn (word_step s k) r.0) (direct r.1)), λ q is_q. subst E (law.once p q k is is_q) here))

      -- no word changes at a load
      pub told_read : (words : List ℕ) (c v : ℕ) → word_step s p ≡ read c v → Told s D words → Told s E words
      told_read words c v is t = record {
        wide = t.wide;
        each_cell = λ d lt. shows_more d (get_or words d 0) (λ w is_w. absurd (cc (sym is ∙ is_w))) (t.each_cell d lt);
        over = over_more (get_or words (cells s) 0) (λ f. absurd (let z : read c v ≡ finish = sym is ∙ f in cc z)) t.over;
        each_spawn = λ k is_k. cont_more k (get_or words (cells s + k) 0) is_k
            (λ same. absurd (cc (sym is ∙ ap (λ j. word_step s j) (sym same) ∙ is_k)))
            (λ is_r. absurd (cc (sym is ∙ is_r)))
            (t.each_spawn k is_k);
      }

      -- the cell is written
      pub told_written : (words : List ℕ) (c v : ℕ) → c < cells s → word_step s p ≡ write c v → Told s D words → Told s E (set words c v)
      told_written words c v small is t =
          let wide = t.wide in
          record {
            wide = length-set words c v ∙ t.wide;
            each_cell = λ d lt. dite (ℕ_discrete d c)
                (λ (same : d ≡ c). subst (λ k. Shows s E k (get_or (set words c v) k 0)) (sym same) (subst (λ n. Shows s E c n) (sym (get_or-set_same words c v 0 (omega arith))) (shows_written c v is)))
                (λ (other : d ≢ c). subst (λ n. Shows s E d n) (sym (get_or-set_other words c d v 0 other)) (shows_more d (get_or words d 0) (λ w is_w. other (let both : write c v ≡ write d w = sym is ∙ is_w in cc (both))) (t.each_cell d lt)));
            over = subst (λ n. Over s E n) (sym (get_or-set_other words c (cells s) v 0 (λ e. omega arith)))
                (over_more (get_or words (cells s) 0) (λ f. absurd (let z : write c v ≡ finish = sym is ∙ f in cc z)) t.over);
            each_spawn = λ k is_k.
                let other : cells s + k ≢ c = λ e. omega arith in
                subst (λ n. Cont s E k n) (sym (get_or-set_other words c (cells s + k) v 0 other))
                (cont_more k (get_or words (cells s + k) 0) is_k (λ same. absurd (cc (sym is ∙ ap (λ j. word_step s j) (sym same) ∙ is_k))) (λ is_r. absurd (cc (sym is ∙ is_r))) (t.each_spawn k is_k));
          }

      -- the word of the continuation k becomes n
      told_cont : (words : List ℕ) (k n : ℕ) → word_step s k ≡ spawn → k ≤ length s.events → ((c v : ℕ) → word_step s p ≡ write c v → ⊥) → (word_step s p ≡ finish → ⊥) → Cont s E k n
          → ((j : ℕ) → word_step s j ≡ spawn → j ≢ k → Cont s D j (get_or words (cells s + j) 0) → Cont s E j (get_or words (cells s + j) 0)) → Told s D words → Told s E (set words (cells s + k) n)
      told_cont words k n is_k small not not_end mine others t =
          let wide = t.wide in
          let low = (law.inside k (word_of_spawn (word_step s k) is_k)).0 in
          record {
            wide = length-set words (cells s + k) n ∙ t.wide;
            each_cell = λ d lt. let other : d ≢ cells s + k = λ e. omega arith in
                subst (λ m. Shows s E d m) (sym (get_or-set_other words (cells s + k) d n 0 other)) (shows_more d (get_or words d 0) (not d) (t.each_cell d lt));
            over = subst (λ m. Over s E m) (sym (get_or-set_other words (cells s + k) (cells s) n 0 (λ e. omega arith))) (over_more (get_or words (cells s) 0) not_end t.over);
            each_spawn = λ j is_j. dite (ℕ_discrete j k)
                (λ (same : j ≡ k). subst (λ i. Cont s E i (get_or (set words (cells s + k) n) (cells s + i) 0)) (sym same) (subst (λ m. Cont s E k m) (sym (get_or-set_same words (cells s + k) n 0 (omega arith))) mine))
                (λ (other : j ≢ k). let apart : cells s + j ≢ cells s + k = λ e. other (omega arith) in
                subst (λ m. Cont s E j m) (sym (get_or-set_other words (cells s + k) (cells s + j) n 0 apart)) (others j is_j other (t.each_spawn j is_j)));
          }

      pub told_opened : (words : List ℕ) → word_step s p ≡ spawn → p ≤ length s.events → Told s D words → Told s E (set words (cells s + p) 1)
      told_opened words is small = told_cont words p 1 is small (λ c v w. absurd (cc (sym is ∙ w))) (λ f. absurd (let z : spawn ≡ finish = sym is ∙ f in cc z)) (cont_opened is)
          (λ j is_j other. cont_more j (get_or words (cells s + j) 0) is_j other (λ r. absurd (cc (sym is ∙ r))))

      pub told_taken : (words : List ℕ) (k : ℕ) → word_step s p ≡ resume k → k ≤ length s.events → Told s D words → Told s E (set words (cells s + k) 2)
      told_taken words k is small = told_cont words k 2 (law.resumed p k is).0 small (λ c v w. absurd (cc (sym is ∙ w))) (λ f. absurd (let z : resume k ≡ finish = sym is ∙ f in cc z)) (cont_taken k is)
          (λ j is_j other. cont_more j (get_or words (cells s + j) 0) is_j
          (λ same. absurd (cc (sym is ∙ ap (λ i. word_step s i) (sym same) ∙ is_j)))
          (λ r. let both : resume k ≡ resume j = sym is ∙ r in other (cc (both))))

      pub told_finished : (words : List ℕ) → word_step s p ≡ finish → Told s D words → Told s E (set words (cells s) 1)
      told_finished words is t =
          let wide = t.wide in
          record {
            wide = length-set words (cells s) 1 ∙ t.wide;
            each_cell = λ d lt. let other : d ≢ cells s = λ e. omega arith in
                subst (λ m. Shows s E d m) (sym (get_or-set_other words (cells s) d 1 0 other))
                (shows_more d (get_or words d 0) (λ v w. absurd (let z : finish ≡ write d v = sym is ∙ w in cc z)) (t.each_cell d lt));
            over = subst (λ m. Over s E m) (sym (get_or-set_same words (cells s) 1 0 (omega arith)))
                (inr (refl, λ q is_q. subst E (law.finished p is ∙ sym (law.finished q is_q)) here));
            each_spawn = λ k is_k.
                let low = (law.inside k (word_of_spawn (word_step s k) is_k)).0 in
                let other : cells s + k ≢ cells s = λ e. omega arith in
                subst (λ m. Cont s E k m) (sym (get_or-set_other words (cells s) (cells s + k) 1 0 other))
                (cont_more k (get_or words (cells s + k) 0) is_k
                (λ same. absurd (let z : finish ≡ spawn = sym is ∙ ap (λ j. word_step s j) (sym same) ∙ is_k in cc z))
                (λ r. absurd (let z : finish ≡ resume k = sym is ∙ r in cc z))
                (t.each_spawn k is_k));
          }
