-- Memory and views by names are the serial run's store, and stay so with each event.
use Rattle.std.proofs.Common.{◌≡◌, ℕ, suc, ◌+◌, nat_eq, ℤ, Bool, true, false, true≢false, cond, if◌then◌else◌, ◌&&◌, IsTrue, List, [], ◌∷◌, slice_get, refl, sym, ap, ◌∙◌, subst, arith}
use Rattle.cilk_types.specs.declared.event.Instance as numbered
use Rattle.cilk_monoid.specs.declared.kind.MonoidKind.{MonoidKind}
use Rattle.cilk_monoid.proofs.SameKinds.{kind_itself}
use Rattle.cilk_monoid.specs.declared.kind.MonoidKind.TheVariants.{Append}
use Rattle.cilk_monoid.specs.Kinds.{structure_of, same_kind, appended}
use Rattle.cilk_monoid.specs.Ranges as ranges
use Rattle.cilk_monoid.specs.Values.{ViewValue, Elements}
use Rattle.cilk_program.specs.Store.{Store, put, put_view, clear, clear_all, print}
use Rattle.cilk_program.specs.Syntax.{Source}
use Rattle.cilk_program.specs.WellNamed.{is_kind}
use Rattle.cilk_program.specs.SerialRun.{Transcript}
use Rattle.cilk_determinacy.specs.Runs.{Cell, same_cell, Instance, Output, Reducer, same_instance, has_instance}
use Rattle.cilk_determinacy.proofs.Basics.{same_instance-eq}
use Rattle.cilk_determinacy.specs.Reducers.{View, value_of, kind_of}
use Rattle.cilk_determinacy.specs.FrameEnvs.{Reducers}
use Rattle.cilk_determinacy.specs.FrameEnvMachine.{retired_from}
use Rattle.cilk_determinacy.specs.Numbers.{cell_number, instance_number, HasCell, HasInstance}
use Rattle.cilk_determinacy.proofs.Numbers.{same_cells, same_instances}
use Rattle.cilk_determinacy.proofs.Sights.{IsNumbered}

-- one comparison chooses on both sides
chosen : {A B : Type 0} (f : A → B) (b b' : Bool) (x y : A) (x' y' : B) → b ≡ b' → (b ≡ true → f x ≡ x') → f y ≡ y' → f (cond b x y) ≡ (if b' then x' else y')
chosen f true true x y x' y' e h g = h refl
chosen f true false x y x' y' e h g = absurd (true≢false e)
chosen f false true x y x' y' e h g = absurd (true≢false (sym e))
chosen f false false x y x' y' e h g = g

module _ (p : Source) (r : Transcript) where
  pub record Same (memory : Cell → ℤ) (views : Instance → View) (store : Store numbered.Instance) : Type 0 where
    pub cells : (c : Cell) → HasCell p r c → memory c ≡ store.cells (cell_number p r c)
    pub reducers : (i : Instance) → HasInstance p r i → value_of (kind_of i) (views i) ≡ store.views (kind_of i) (instance_number p r i)
    pub output : value_of Append (views Output) ≡ Elements store.output

  pub same_put : (memory : Cell → ℤ) (views : Instance → View) (store : Store numbered.Instance) (c : Cell) (n : ℕ) (v : ℤ) → HasCell p r c → cell_number p r c ≡ n → Same memory views store
      → Same (λ d. cond (same_cell c d) v (memory d)) views (put n v store)
  same_put memory views store c n v has same h = record {
    cells = λ d has_d. chosen (λ x. x) (same_cell c d) (nat_eq n (cell_number p r d)) v (memory d) v (store.cells (cell_number p r d)) (same_cells p r c d has has_d ∙ ap (λ n. nat_eq n (cell_number p r d)) same) (λ _. refl) (h.cells d has_d);
    reducers = h.reducers;
    output = h.output;
  }

  is_reducer : (i : Instance) → HasInstance p r i → same_instance i Output ≡ false
  is_reducer Output h = absurd h
  is_reducer (Reducer name n k) h = refl

  pub same_put_view : (memory : Cell → ℤ) (views new : Instance → View) (store : Store numbered.Instance) (i : Reducers) (k : MonoidKind) (j : numbered.Instance) (v : ViewValue) → HasInstance p r (i k) → IsNumbered p r i j → value_of k (new (i k)) ≡ v → Same memory views store
      → Same memory (λ d. cond (same_instance (i k) d) (new d) (views d)) (put_view ranges.same_instance k j v store)
  same_put_view memory views new store i k j v has numbered is h = record {
    cells = h.cells;
    reducers = λ d has_d. chosen (value_of (kind_of d)) (same_instance (i k) d) (same_kind k (kind_of d) && ranges.same_instance j (instance_number p r d)) (new d) (views d) v (store.views (kind_of d) (instance_number p r d))
        (same_instances p r (i k) d has has_d ∙ ap (λ n. same_kind n (kind_of d) && ranges.same_instance (instance_number p r (i k)) (instance_number p r d)) (numbered k).1 ∙ ap (λ n. same_kind k (kind_of d) && ranges.same_instance n (instance_number p r d)) (numbered k).0)
        (λ yes_same. subst (λ d. value_of (kind_of d) (new d) ≡ v) (same_instance-eq (i k) d yes_same) (ap (λ n. value_of n (new (i k))) (numbered k).1 ∙ is))
        (h.reducers d has_d);
    output = ap (λ b. value_of Append (cond b (new Output) (views Output))) (is_reducer (i k) has) ∙ h.output;
  }

  pub same_print : (memory : Cell → ℤ) (views : Instance → View) (store : Store numbered.Instance) (v : ℤ) → Same memory views store
      → Same memory (λ d. cond (same_instance Output d) (λ u. (structure_of (kind_of d)).combine (views d u) ((structure_of (kind_of d)).single v)) (views d)) (print v store)
  same_print memory views store v h = record {
    cells = h.cells;
    reducers = reducer_views;
    output = ap (λ u. appended u (Elements (v ∷ []))) h.output;
  }
    where
      reducer_views : (i : Instance) → HasInstance p r i → value_of (kind_of i) (cond (same_instance Output i) (λ u. (structure_of (kind_of i)).combine (views i u) ((structure_of (kind_of i)).single v)) (views i)) ≡ store.views (kind_of i) (instance_number p r i)
      reducer_views Output has = absurd has
      reducer_views (Reducer name n k) has = h.reducers (Reducer name n k) has

  -- the same for equal views
  pub same_views : (memory : Cell → ℤ) (views views' : Instance → View) (store : Store numbered.Instance) → ((i : Instance) → views i ≡ views' i) → Same memory views store → Same memory views' store
  same_views memory views views' store e h = record {
    cells = h.cells;
    reducers = λ i has. ap (value_of (kind_of i)) (sym (e i)) ∙ h.reducers i has;
    output = ap (value_of Append) (sym (e Output)) ∙ h.output;
  }

  pub same_memory : (memory memory' : Cell → ℤ) (views : Instance → View) (store : Store numbered.Instance) → ((c : Cell) → memory c ≡ memory' c) → Same memory views store → Same memory' views store
  same_memory memory memory' views store e h = record { cells = λ c has. sym (e c) ∙ h.cells c has; reducers = h.reducers; output = h.output }

  retired_one : (b c : Bool) (v : View) → cond c (λ u. u) (cond b (λ u. u) v) ≡ cond (cond b true c) (λ u. u) v
  retired_one true true v = refl
  retired_one true false v = refl
  retired_one false true v = refl
  retired_one false false v = refl

  pub same_retired : (own : ℕ → Reducers) (own' : ℕ → numbered.Instance) (n : ℕ) (ks : List MonoidKind) (memory : Cell → ℤ) (views : Instance → View) (store : Store numbered.Instance)
      → ((i : ℕ) → IsNumbered p r (own i) (own' i)) → ((i : ℕ) (k : MonoidKind) → IsTrue (is_kind (slice_get ks i) k) → HasInstance p r (own (n + i) k)) → Same memory views store
      → Same memory (λ d. cond (has_instance (retired_from own n ks) d) (λ u. u) (views d)) (clear_all ranges.same_instance own' n ks store)
  same_retired own own' n [] memory views store numbers has h = h
  same_retired own own' n (k ∷ ks) memory views store numbers has h =
      let e : n + 0 ≡ n = omega arith in
      let first = same_put_view memory views (λ d u. u) store (own n) k (own' n) ((structure_of k).unit) (subst (λ n. HasInstance p r (own n k)) e (has 0 k (kind_itself k))) (numbers n) refl h in
      same_views memory _ _ (clear_all ranges.same_instance own' n (k ∷ ks) store) (λ d. retired_one (same_instance (own n k) d) (has_instance (retired_from own (suc n) ks) d) (views d))
      (same_retired own own' (suc n) ks memory (λ d. cond (same_instance (own n k) d) (λ u. u) (views d)) (clear ranges.same_instance k (own' n) store) numbers
      (λ i j is. let e' : n + suc i ≡ suc n + i = omega arith in subst (λ n. HasInstance p r (own n j)) e' (has (suc i) j is)) first)
