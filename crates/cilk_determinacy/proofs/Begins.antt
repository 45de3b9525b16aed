-- Each frame of a cut is one of the serial run's, and what it has done begins what that does.
use Rattle.std.proofs.Common.{◌≡◌, ℕ, suc, ◌≤◌, List, [], ◌∷◌, Some, None, refl, sym, ap, ap₂, ◌∙◌, subst, arith, ⊎_elim, eq-eqb, ne_eqb}
use Rattle.std.specs.Prelude.{nat_eq}
use Rattle.std.proofs.lemmas.Bool.{cases_eq, cond-true, cond-false}
use Rattle.cilk_types.specs.declared.invocation.Invocation.{Invocation}
use Rattle.cilk_types.specs.declared.invocation.Invocation.TheVariants.{Call, Spawn}
use Rattle.cilk_determinacy.specs.Runs.{Name, Reads, Writes, Syncs, Ends, Passes, Deed, Does, Invokes, Run, stop, act, child}
use Rattle.cilk_determinacy.specs.Machine.{Frame, Frames, deeds_at}
use Rattle.cilk_determinacy.specs.Serial.{own_deeds, child_at, run_in}
use Rattle.cilk_determinacy.specs.Cuts.{below, IsStarted, NoneFrom, IsCut, Begins, BeginsSerially, sync_bit, spawn_bit, joined_at, joined}
use Rattle.cilk_determinacy.proofs.Find.{counts_from}
use Rattle.cilk_determinacy.proofs.Grows.{cut_none}

past_first : (k j : ℕ) → k ≤ j → (k ≡ j → ⊥) → suc k ≤ j
past_first k j le ne = omega arith

module _ {W : Type 0} where
  own_begins : (r : Run W) (k : ℕ) (ds : List (Deed W)) (kids : ℕ → Frames W) → IsCut r k ds kids → Begins ds (own_deeds r)
  own_begins r k [] kids cut = (own_deeds r, refl)
  own_begins stop k (d ∷ ds) kids cut = absurd cut
  own_begins (act e r) k (d ∷ ds) kids cut = let ih = own_begins r k ds kids cut.1 in (ih.0, ap₂ (λ a b. a ∷ b) cut.0 ih.1)
  own_begins (child b w u r) k (d ∷ ds) kids cut = let ih = own_begins r (suc k) ds kids cut.4 in (ih.0, ap₂ (λ a b. a ∷ b) cut.0 ih.1)

  -- child j of a cut, by its run
  abbrev ChildCut : Run W → ℕ → ℕ → (ℕ → Frames W) → Type 0
  ChildCut r k j kids = (u : Run W) × (w : W) × (child_at r k j ≡ Some u) × IsStarted w (kids j) × IsCut u 1 (deeds_at (kids j [])) (below (kids j))

  nobody : (k j : ℕ) (m : Name) (kids : ℕ → Frames W) (f : Frame W) {X : Type 0} → NoneFrom k kids → k ≤ j → kids j m ≡ Some f → X
  nobody k j m kids f none le q = let z : None ≡ Some f = sym (none j le m) ∙ q in absurd (cc)

  later_child : (b : Invocation) (w : W) (u r : Run W) (k j : ℕ) (kids : ℕ → Frames W) → (k ≡ j → ⊥) → ChildCut r (suc k) j kids → ChildCut (child b w u r) k j kids
  later_child b w u r k j kids ne (v, x, at, s, c) = (v, x, cond-false (nat_eq k j) (Some u) (child_at r (suc k) j) (ne_eqb k j ne) ∙ at, s, c)

  child_cut : (r : Run W) (k : ℕ) (ds : List (Deed W)) (kids : ℕ → Frames W) (j : ℕ) (m : Name) (f : Frame W) → IsCut r k ds kids → k ≤ j → kids j m ≡ Some f → ChildCut r k j kids
  child_cut r k [] kids j m f cut le q = nobody k j m kids f (cut_none r k kids cut) le q
  child_cut stop k (d ∷ ds) kids j m f cut le q = absurd cut
  child_cut (act e r) k (d ∷ ds) kids j m f cut le q = child_cut r k ds kids j m f cut.1 le q
  child_cut (child b w u r) k (d ∷ ds) kids j m f cut le q =
      ⊎_elim
      (λ e. subst (λ z. ChildCut (child b w u r) k z kids) e (u, w, cond-true (nat_eq k k) (Some u) (child_at r (suc k) k) (eq-eqb k k refl), cut.1, cut.2))
      (λ ne. later_child b w u r k j kids ne (child_cut r (suc k) ds kids j m f cut.4 (past_first k j le ne) q))
      (cases_eq k j)

  pub begins : (n : Name) (t : Run W) (w : W) (frames : Frames W) → IsStarted w frames → IsCut t 1 (deeds_at (frames [])) (below frames) → BeginsSerially t frames n
  begins [] t w frames s cut f q = (t, refl, subst (λ z. Begins z (own_deeds t)) (ap deeds_at q) (own_begins t 1 (deeds_at (frames [])) (below frames) cut))
  begins (j ∷ m) t w frames s cut f q =
      let (u, v, at, begun, inner) = child_cut t 1 (deeds_at (frames [])) (below frames) j m f cut (counts_from frames j m f s.1 q) q in
      let (x, is, more) = begins m u v (below frames j) begun inner f q in
      (x, ap (λ z. run_in z m) at ∙ is, more)

  sync_bit_le : (ds : List (Deed W)) → sync_bit ds ≤ 1
  sync_bit_le [] = omega arith
  sync_bit_le (Does (Reads c v) ∷ ds) = sync_bit_le ds
  sync_bit_le (Does (Writes c v) ∷ ds) = sync_bit_le ds
  sync_bit_le (Does Syncs ∷ ds) = omega arith
  sync_bit_le (Does (Ends val gone) ∷ ds) = sync_bit_le ds
  sync_bit_le (Does (Passes m) ∷ ds) = sync_bit_le ds
  sync_bit_le (Invokes b w ∷ ds) = sync_bit_le ds

  spawn_le : (b : Invocation) (ds : List (Deed W)) → spawn_bit b (sync_bit ds) ≤ 1
  spawn_le Call ds = omega arith
  spawn_le Spawn ds = sync_bit_le ds

  joined_at_le : (z k : ℕ) (ds : List (Deed W)) → joined_at z k ds ≤ 1
  joined_at_le z k [] = omega arith
  joined_at_le z k (Does e ∷ ds) = joined_at_le z k ds
  joined_at_le z k (Invokes b w ∷ ds) =
      ⊎_elim (λ e. rw (eq-eqb z k e) (spawn_le b ds)) (λ ne. rw (ne_eqb z k ne) (joined_at_le (suc z) k ds)) (cases_eq z k)

  pub joined_le : (frames : Frames W) (n : Name) → joined frames n ≤ 1
  joined_le frames [] = omega arith
  joined_le frames (k ∷ []) = joined_at_le 1 k (deeds_at (frames []))
  joined_le frames (j ∷ k ∷ n) = joined_le (below frames j) (k ∷ n)
