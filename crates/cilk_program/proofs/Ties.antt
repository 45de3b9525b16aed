-- The store of an elision and that of a serial run, with a tie between their reducers.
use Rattle.std.proofs.Common.{true≢false, ◌≡◌, ℕ, suc, ◌+◌, ◌-◌, ◌<◌, ◌≤◌, ℤ, Bool, true, false, ◌&&◌, if◌then◌else◌, nat_eq, nat_lt, List, [], ◌∷◌, ◌++◌, length, inl, inr, refl, sym, ap, ap₂, ◌∙◌, subst, arith, le_refl, lt-ltb, le-ltb, eq-eqb, ne_eqb, eqb-true}
use Rattle.std.proofs.lemmas.Bool.{cases_lt, and_parts}
use Rattle.cilk_types.specs.declared.event.Instance.{Instance}
use Rattle.cilk_monoid.specs.declared.kind.MonoidKind.{MonoidKind}
use Rattle.cilk_monoid.specs.Kinds.{structure_of, same_kind}
use Rattle.cilk_monoid.specs.Ranges.{same_instance}
use Rattle.cilk_monoid.specs.Values.{ViewValue}
use Rattle.cilk_program.specs.Store.{Store, put, print, put_view, clear, clear_all, update, set, number_at}

-- The stores are the same when n reducers and k frames have begun. Each reducer of the elision is
-- tied to one of the serial run, no two to the same one. Reducers that haven't begun have no view.
pub record Same (tied : ℕ → Instance) (count frames : ℕ) (m : Store ℕ) (m' : Store Instance) : Type 0 where
  pub cells : m.cells ≡ m'.cells
  pub output : m.output ≡ m'.output
  pub views : (k : MonoidKind) (n : ℕ) → n < count → m.views k n ≡ m'.views k (tied n)
  pub later : (k : MonoidKind) (n : ℕ) → count ≤ n → m.views k n ≡ (structure_of k).unit
  pub later' : (k : MonoidKind) (i : Instance) → frames < i.frame → m'.views k i ≡ (structure_of k).unit
  pub apart : (n j : ℕ) → n < count → j < count → same_instance (tied n) (tied j) ≡ nat_eq n j
  pub old : (n : ℕ) → n < count → (tied n).frame ≤ frames

-- more reducers may have begun since
pub record Since (tied : ℕ → Instance) (count : ℕ) (tied' : ℕ → Instance) (count' : ℕ) : Type 0 where
  pub more : count ≤ count'
  pub kept : (n : ℕ) → n < count → tied' n ≡ tied n

pub since_itself : (tied : ℕ → Instance) (count : ℕ) → Since tied count tied count
since_itself tied count = record { more = le_refl count; kept = λ n h. refl }

pub since_then : {tied tied' tied'' : ℕ → Instance} {count count' count'' : ℕ} → Since tied count tied' count' → Since tied' count' tied'' count'' → Since tied count tied'' count''
since_then a b =
    let more = a.more in let more' = b.more in
    record { more = omega arith; kept = λ n h. let h' : n < _ = omega arith in b.kept n h' ∙ a.kept n h }

same_choice : {A : Type 0} (t b b' : Bool) (w w' v v' : A) → b ≡ b' → w ≡ w' → v ≡ v' → (if t && b then w else v) ≡ (if t && b' then w' else v')
same_choice t b b' w w' v v' e p q = cc

pub not_chosen : {A : Type 0} (t b : Bool) (w v : A) → b ≡ false → (if t && b then w else v) ≡ v
not_chosen true b w v e = ap (λ b. if b then w else v) e
not_chosen false b w v e = refl

differ : (i j : Instance) → (i.frame ≡ j.frame → ⊥) → same_instance i j ≡ false
differ i j h = ap (λ t. t && nat_eq i.place j.place) (ne_eqb i.frame j.frame h)

module _ {tied : ℕ → Instance} {count frames : ℕ} {m : Store ℕ} {m' : Store Instance} (s : Same tied count frames m m') where
  pub same_put : (c : ℕ) (v : ℤ) → Same tied count frames (put c v m) (put c v m')
  same_put c v = record { cells = ap (λ f n. if nat_eq c n then v else f n) s.cells; output = s.output; views = s.views; later = s.later; later' = s.later'; apart = s.apart; old = s.old }

  pub same_print : (v : ℤ) → Same tied count frames (print v m) (print v m')
  same_print v = record { cells = s.cells; output = ap (λ o. o ++ v ∷ []) s.output; views = s.views; later = s.later; later' = s.later'; apart = s.apart; old = s.old }

  pub same_put_view : (k : MonoidKind) (n : ℕ) (w w' : ViewValue) → n < count → w ≡ w' → Same tied count frames (put_view nat_eq k n w m) (put_view same_instance k (tied n) w' m')
  same_put_view k n w w' h e = record {
    cells = s.cells;
    output = s.output;
    views = λ k' j h'. same_choice (same_kind k k') _ _ _ _ _ _ (sym (s.apart n j h h')) e (s.views k' j h');
    later = λ k' j h'. not_chosen (same_kind k k') (nat_eq n j) _ _ (ne_eqb n j (λ q. omega arith)) ∙ s.later k' j h';
    later' = λ k' i h'. let o = s.old n h in not_chosen (same_kind k k') (same_instance (tied n) i) _ _ (differ (tied n) i (λ q. omega arith)) ∙ s.later' k' i h';
    apart = s.apart;
    old = s.old;
  }

  module _ (k : MonoidKind) (n : ℕ) (i : Instance) (h : n < count) (e : i ≡ tied n) where
    pub same_view : m.views k n ≡ m'.views k i
    same_view = s.views k n h ∙ ap (m'.views k) (sym e)

    pub same_clear : Same tied count frames (clear nat_eq k n m) (clear same_instance k i m')
    same_clear = subst (λ i. Same tied count frames (clear nat_eq k n m) (clear same_instance k i m')) (sym e) (same_put_view k n _ _ h refl)

    pub same_set : (x : ℤ) → Same tied count frames (set nat_eq k n x m) (set same_instance k i x m')
    same_set x = subst (λ i. Same tied count frames (set nat_eq k n x m) (set same_instance k i x m')) (sym e) (same_put_view k n _ _ h refl)

    pub same_update : (x : ℤ) → Same tied count frames (update nat_eq k n x m) (update same_instance k i x m')
    same_update x =
        subst (λ i. Same tied count frames (update nat_eq k n x m) (update same_instance k i x m')) (sym e)
        (same_put_view k n _ _ h (ap (λ v. (structure_of k).combine v ((structure_of k).single x)) (s.views k n h)))

    pub same_number : number_at k n m ≡ number_at k i m'
    same_number = ap (structure_of k).number same_view

  -- a frame without reducers of its own begins
  pub same_begun : Same tied count (suc frames) m m'
  same_begun = record {
    cells = s.cells;
    output = s.output;
    views = s.views;
    later = s.later;
    later' = λ k i h. s.later' k i (omega arith);
    apart = s.apart;
    old = λ n h. let o = s.old n h in omega arith;
  }

-- a frame's own reducers are created, or retired
pub same_clear_all : {tied : ℕ → Instance} {count frames : ℕ} (own : ℕ → ℕ) (own' : ℕ → Instance) (n : ℕ) (ks : List MonoidKind) {m : Store ℕ} {m' : Store Instance}
    → ((j : ℕ) → j < n + length ks → (own j < count) × (own' j ≡ tied (own j)))
    → Same tied count frames m m' → Same tied count frames (clear_all nat_eq own n ks m) (clear_all same_instance own' n ks m')
same_clear_all own own' n [] h s = s
same_clear_all {count = count} own own' n (k ∷ ks) h s =
    let here : n < n + suc (length ks) = omega arith in
    let q = h n here in
    same_clear_all own own' (suc n) ks (λ j h'. let h'' : j < n + suc (length ks) = omega arith in h j h'') (same_clear s k (own n) (own' n) q.0 q.1)

-- a frame begins, whose own reducers come next
abbrev pub grown : (ℕ → Instance) → ℕ → ℕ → ℕ → ℕ → Instance
grown tied count frame first n = if nat_lt n count then tied n else record { frame = frame; place = first + (n - count) }

module _ (tied : ℕ → Instance) (count frame first : ℕ) where
  pub grown_old : (n : ℕ) → n < count → grown tied count frame first n ≡ tied n
  grown_old n h = ap (λ t. if t then tied n else record { frame = frame; place = first + (n - count) }) (lt-ltb n count h)

  grown_new : (n : ℕ) → count ≤ n → grown tied count frame first n ≡ record { frame = frame; place = first + (n - count) }
  grown_new n h = ap (λ t. if t then tied n else record { frame = frame; place = first + (n - count) }) (le-ltb n count h)

  pub grown_own : (n : ℕ) → grown tied count frame first (count + n) ≡ record { frame = frame; place = first + n }
  grown_own n =
      let h : count ≤ count + n = omega arith in
      let e : first + (count + n - count) ≡ first + n = omega arith in
      grown_new (count + n) h ∙ ap (λ x. record { frame = frame; place = x }) e

  pub since_grown : (k : ℕ) → Since tied count (grown tied count frame first) (count + k)
  since_grown k = record { more = omega arith; kept = grown_old }

pub as_equal : (t : Bool) (n j : ℕ) → (t ≡ true → n ≡ j) → (n ≡ j → t ≡ true) → t ≡ nat_eq n j
as_equal true n j f g = sym (eq-eqb n j (f refl))
as_equal false n j f g = sym (ne_eqb n j (λ e. absurd (true≢false (sym (g e)))))

pub same_itself : (i : Instance) → same_instance i i ≡ true
same_itself i = ap₂ (λ a b. a && b) (eq-eqb i.frame i.frame refl) (eq-eqb i.place i.place refl)

pub parts : (i j : Instance) → same_instance i j ≡ true → (i.frame ≡ j.frame) × (i.place ≡ j.place)
parts i j e = let q = and_parts (nat_eq i.frame j.frame) (nat_eq i.place j.place) e in (eqb-true i.frame j.frame q.0, eqb-true i.place j.place q.1)

pub same_grown : {tied : ℕ → Instance} {count frames : ℕ} (first k : ℕ) {m : Store ℕ} {m' : Store Instance} → Same tied count frames m m'
    → Same (grown tied count (suc frames) first) (count + k) (suc frames) m m'
same_grown {tied} {count} {frames} first k {m} {m'} s = record {
  cells = s.cells;
  output = s.output;
  views = λ k n h. elim (cases_lt n count) [
    | inl q ↦ s.views k n q ∙ ap (m'.views k) (sym (grown_old tied count (suc frames) first n q))
    | inr q ↦ s.later k n q ∙ sym (s.later' k (record { frame = suc frames; place = first + (n - count) }) (le_refl (suc frames))) ∙ ap (m'.views k) (sym (grown_new tied count (suc frames) first n q))
  ];
  later = λ k n h. s.later k n (omega arith);
  later' = λ k i h. s.later' k i (omega arith);
  apart = λ n j h h'. as_equal (same_instance (grown tied count (suc frames) first n) (grown tied count (suc frames) first j)) n j (one n j) (λ e. ap (λ j. same_instance (grown tied count (suc frames) first n) (grown tied count (suc frames) first j)) (sym e) ∙ same_itself (grown tied count (suc frames) first n));
  old = λ n h. elim (cases_lt n count) [
    | inl q ↦ let o = s.old n q in let e = ap (λ i. i.frame) (grown_old tied count (suc frames) first n q) in omega arith
    | inr q ↦ let e = ap (λ i. i.frame) (grown_new tied count (suc frames) first n q) in omega arith
  ];
}
  where
    one : (n j : ℕ) → same_instance (grown tied count (suc frames) first n) (grown tied count (suc frames) first j) ≡ true → n ≡ j
    one n j e =
        let frame : (grown tied count (suc frames) first n).frame ≡ (grown tied count (suc frames) first j).frame = (parts (grown tied count (suc frames) first n) (grown tied count (suc frames) first j) e).0 in
        let place : (grown tied count (suc frames) first n).place ≡ (grown tied count (suc frames) first j).place = (parts (grown tied count (suc frames) first n) (grown tied count (suc frames) first j) e).1 in
        elim (cases_lt n count) [
          | inl q ↦ elim (cases_lt j count) [
            | inl q' ↦
                let same : same_instance (tied n) (tied j) ≡ true = ap₂ same_instance (sym (grown_old tied count (suc frames) first n q)) (sym (grown_old tied count (suc frames) first j q')) ∙ e in
                eqb-true n j (sym (s.apart n j q q') ∙ same)
            | inr q' ↦
                let a = ap (λ i. i.frame) (grown_old tied count (suc frames) first n q) in
                let b = ap (λ i. i.frame) (grown_new tied count (suc frames) first j q') in
                let o = s.old n q in
                absurd (omega arith)
          ]
          | inr q ↦ elim (cases_lt j count) [
            | inl q' ↦
                let a = ap (λ i. i.frame) (grown_new tied count (suc frames) first n q) in
                let b = ap (λ i. i.frame) (grown_old tied count (suc frames) first j q') in
                let o = s.old j q' in
                absurd (omega arith)
            | inr q' ↦
                let a = ap (λ i. i.place) (grown_new tied count (suc frames) first n q) in
                let b = ap (λ i. i.place) (grown_new tied count (suc frames) first j q') in
                omega arith
          ]
        ]
