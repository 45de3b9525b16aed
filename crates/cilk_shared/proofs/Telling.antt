-- What the words tell, by the rule that they keep: `tells_what_is_done`.
use Rattle.std.proofs.Common.{◌≡◌, ◌↔◌, ◌⊎◌, ℕ, ◌+◌, ◌≤◌, length, get_or, inl, inr, sym, ◌∙◌, subst, arith, pos}
use Rattle.atomic_table.specs.Table.{State}
use Rattle.cilk_tree.specs.declared.event_order.EventOrder.{EventOrder}
use Rattle.cilk_tree.specs.Orders.{IsOrderly}
use Rattle.cilk_tree.specs.Reach.{direct}
use Rattle.cilk_tree.specs.Word.{WordEvent, finish, resume, spawn, word, write, word_step}
use Rattle.cilk_shared.specs.declared.view.View.{View}
use Rattle.cilk_shared.specs.Laws.{TellsWhatIsDone, WordsTellWhatIsDone}
use Rattle.cilk_shared.specs.Rule.{Cont, Done, Kept, Over, Shows, cells}
use Rattle.cilk_shared.proofs.Sets.{word_of_resume, word_of_spawn}

module _ (s : EventOrder) (D : ℕ → Type 0) where
  -- ---- a cell

  same_write : (c n m : ℕ) (q r : ℕ) → word_step s q ≡ write c n → word_step s r ≡ write c m → q ≡ r → m ≡ n
  same_write c n m q r is other same =
      let z : write c m ≡ write c n = sym other ∙ subst (λ (j : ℕ). word_step s j ≡ write c n) same is in cc z

  last_write : (c w q n : ℕ) → Shows s D c w → D q → word_step s q ≡ write c n → ((r v : ℕ) → D r → word_step s r ≡ write c v → r ≤ q) → w ≡ n
  last_write c w q n (inl a) done is last = absurd (a.1 q n done is)
  last_write c w q n (inr (r, there, found, latest)) done is last =
      let up = latest q n done is in
      let down = last r w there found in
      let same : q ≡ r = omega (arith, up, down) in
      same_write c n w q r is found same

  opening_word : (c w : ℕ) → Shows s D c w → ((q n : ℕ) → D q → word_step s q ≡ write c n → ⊥) → w ≡ word (get_or s.opening c (pos 0))
  opening_word c w (inl a) none = a.0
  opening_word c w (inr (q, done, is, latest)) none = absurd (none q w done is)

  -- ---- a continuation

  module _ (k n : ℕ) where
    none_offered : Cont s D k n → (n ≡ 0) ↔ (D k → ⊥)
    none_offered (inl a) = (λ _. a.1, λ _. a.0)
    none_offered (inr (inl a)) = (λ is. absurd (omega (arith, is, a.0)), λ none. absurd (none a.1))
    none_offered (inr (inr a)) = (λ is. absurd (omega (arith, is, a.0)), λ none. absurd (none a.1))

    module _ (p : ℕ) (is : word_step s p ≡ resume k) where
      is_offered : Cont s D k n → (n ≡ 1) ↔ (D k × (D p → ⊥))
      is_offered (inl a) = (λ one. absurd (omega (arith, one, a.0)), λ h. absurd (a.1 h.0))
      is_offered (inr (inl a)) = (λ _. (a.1, a.2 p is), λ _. a.0)
      is_offered (inr (inr a)) = (λ one. absurd (omega (arith, one, a.0)), λ h. absurd (h.1 (a.2 p is)))

      is_resumed : (D p → D k) → Cont s D k n → (n ≡ 2) ↔ D p
      is_resumed ahead (inl a) = (λ two. absurd (omega (arith, two, a.0)), λ d. absurd (a.1 (ahead d)))
      is_resumed ahead (inr (inl a)) = (λ two. absurd (omega (arith, two, a.0)), λ d. absurd (a.2 p is d))
      is_resumed ahead (inr (inr a)) = (λ _. a.2 p is, λ _. a.0)

  -- ---- the end

  module _ (z n : ℕ) (is : word_step s z ≡ finish) where
    not_ended : Over s D n → (n ≡ 0) ↔ (D z → ⊥)
    not_ended (inl a) = (λ _. a.1 z is, λ _. a.0)
    not_ended (inr a) = (λ none. absurd (omega (arith, none, a.0)), λ none. absurd (none (a.1 z is)))

    has_ended : Over s D n → (n ≡ 1) ↔ D z
    has_ended (inl a) = (λ one. absurd (omega (arith, one, a.0)), λ d. absurd (a.1 z is d))
    has_ended (inr a) = (λ _. a.1 z is, λ _. a.0)

pub tells_what_is_done : WordsTellWhatIsDone
tells_what_is_done s t law kept =
    let D : ℕ → Type 0 = Done t.views in
    let told = kept.told in
    let ahead : (k p : ℕ) → word_step s p ≡ resume k → D p → D k = λ k p is d.
    let back = law.resumed p k is in
    kept.cut p k d (word_of_resume (word_step s p) k is) (word_of_spawn (word_step s k) back.0) (direct back.1) in
    record {
      apart = kept.parted.apart;
      cut = kept.cut;
      written = λ c q n small done is last. last_write s D c _ q n (told.each_cell c small) done is last;
      unwritten = λ c small none. opening_word s D c _ (told.each_cell c small) none;
      unoffered = λ k is. none_offered s D k _ (told.each_spawn k is);
      offered = λ k p is. is_offered s D k _ p is (told.each_spawn k (law.resumed p k is).0);
      resumed = λ k p is. is_resumed s D k _ p is (ahead k p is) (told.each_spawn k (law.resumed p k is).0);
      unended = not_ended s D (length s.events) _ law.last told.over;
      ended = has_ended s D (length s.events) _ law.last told.over;
    }
