-- The tasks that pickers steal: `stolen_there`, by the picker at a place; `after_none`; `still_taken`.
use Rattle.std.proofs.Common.{◌≡◌, ◌<◌, ℕ, zero, suc, List, [], ◌∷◌, ◌++◌, length, slice_get, slice_index_or, slice_set, Option, Some, None, refl, sym, ap, ◌∙◌, subst, arith}
use Rattle.std.specs.Prelude.{MatchOption, All}
use Rattle.cilk_replay.specs.declared.chain.Task.{Task}
use Rattle.cilk_workers.specs.Held.{AreTaken, IsAlone, Steals, all_stolen, stolen, waiting}
use Rattle.cilk_workers.specs.declared.rack.Picker.{Picker}
use Rattle.cilk_workers.specs.declared.rack.Rack.{Rack}

module _ {N : Type 0} where
  none_more : (ps : List (Picker N)) (i : ℕ) (p q : Picker N) → i < length ps → p ≡ slice_index_or ps i p → stolen q ≡ stolen p → all_stolen (slice_set ps i q) ≡ all_stolen ps
  none_more [] i p q lt there same = absurd (omega (arith, lt))
  none_more (x ∷ ps) zero p q lt there same = ap (λ (xs : List Task). xs ∷ all_stolen ps) (same ∙ ap (λ (z : Picker N). stolen z) there)
  none_more (x ∷ ps) (suc i) p q lt there same = ap (λ (l : List (List Task)). stolen x ∷ l) (none_more ps i p q (omega (arith, lt)) there same)

  got : (ps : List (Picker N)) (i : ℕ) (p : Picker N) → i < length ps → p ≡ slice_index_or ps i p → slice_get (all_stolen ps) i ≡ Some (stolen p)
  got [] i p lt there = absurd (omega (arith, lt))
  got (x ∷ ps) zero p lt there = ap (λ (z : Picker N). Some (stolen z)) (sym there)
  got (x ∷ ps) (suc i) p lt there = got ps i p (omega (arith, lt)) there

  put : (ps : List (Picker N)) (i : ℕ) (q : Picker N) → i < length ps → all_stolen (slice_set ps i q) ≡ slice_set (all_stolen ps) i (stolen q)
  put [] i q lt = absurd (omega (arith, lt))
  put (x ∷ ps) zero q lt = refl
  put (x ∷ ps) (suc i) q lt = ap (λ (l : List (List Task)). stolen x ∷ l) (put ps i q (omega (arith, lt)))

  one_more : (ps : List (Picker N)) (i : ℕ) (p q : Picker N) (t : Task) → i < length ps → p ≡ slice_index_or ps i p → stolen q ≡ stolen p ++ t ∷ [] → Steals (all_stolen ps) t (all_stolen (slice_set ps i q))
  one_more ps i p q t lt there more = (i, stolen p, got ps i p lt there, put ps i q lt ∙ ap (λ (xs : List Task). slice_set (all_stolen ps) i xs) more)

  pub stolen_there : (Q : Task → Type 0) (ps : List (Picker N)) (i : ℕ) (p q : Picker N) → i < length ps → p ≡ slice_index_or ps i p → (found : Option Task)
      → MatchOption found (stolen q ≡ stolen p) (λ t. Q t × (stolen q ≡ stolen p ++ t ∷ []))
      → MatchOption found (all_stolen (slice_set ps i q) ≡ all_stolen ps) (λ t. Q t × Steals (all_stolen ps) t (all_stolen (slice_set ps i q)))
  stolen_there Q ps i p q lt there None h = none_more ps i p q lt there h
  stolen_there Q ps i p q lt there (Some t) h = (h.0, one_more ps i p q t lt there h.1)

  pub after_none : (ps ps' : List (Picker N)) (t : Task) (new : List (List Task)) → all_stolen ps' ≡ all_stolen ps → Steals (all_stolen ps') t new → Steals (all_stolen ps) t new
  after_none ps ps' t new same h = subst (λ (l : List (List Task)). Steals l t new) same h

  -- a look at a rack in vain leaves its tasks taken
  pub still_taken : (taken : Task → Type 0) (r r' : Rack N) → waiting r' ≡ waiting r → (IsAlone r' → IsAlone r) → AreTaken taken r → AreTaken taken r'
  still_taken taken r r' same alone h = (subst (λ (ts : List Task). All taken ts) (sym same) h.0, λ q. same ∙ h.1 (alone q))
