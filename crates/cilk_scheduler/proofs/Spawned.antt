-- The stolen children of a block, by the deeds of its frame.
--
-- - `stolen_ext`: by the flags of the children alone;
-- - `stolen_spawn`: with one child more;
-- - `stolen_low`, `greatest_more`: the greatest of them.
use Rattle.std.proofs.Common.{◌≡◌, ◌+◌, ◌<◌, ℕ, suc, Bool, true, false, cond, List, [], ◌∷◌, ◌++◌, refl, ap, ◌∙◌, arith}
use Rattle.cilk_types.specs.declared.invocation.Invocation.TheVariants.{Call, Spawn}
use Rattle.cilk_determinacy.specs.Machine.{started}
use Rattle.cilk_determinacy.specs.Runs.{Reads, Writes, Syncs, Ends, Passes, Deed, Does, Invokes}
use Rattle.cilk_scheduler.specs.Blocks.{stolen_in}
use Rattle.cilk_scheduler.specs.Schedulers.{greatest}

pub greatest_more : (ks : List ℕ) (k : ℕ) → greatest (ks ++ k ∷ []) ≡ k
greatest_more [] k = refl
greatest_more (j ∷ []) k = refl
greatest_more (j ∷ i ∷ ks) k = greatest_more (i ∷ ks) k

low_cond : (t : Bool) (k : ℕ) (ks : List ℕ) → greatest ks < k → greatest (cond t (ks ++ k ∷ []) ks) < suc k
low_cond true k ks low = let e = greatest_more ks k in omega (arith, e)
low_cond false k ks low = omega (arith, low)

module _ {W : Type 0} where
  pub stolen_ext : (loose loose' : ℕ → Bool) → ((q : ℕ) → loose' q ≡ loose q) → (k : ℕ) (ks : List ℕ) (ds : List (Deed W)) → stolen_in loose' k ks ds ≡ stolen_in loose k ks ds
  stolen_ext loose loose' same k ks [] = refl
  stolen_ext loose loose' same k ks (Does (Reads c v) ∷ ds) = stolen_ext loose loose' same k ks ds
  stolen_ext loose loose' same k ks (Does (Writes c v) ∷ ds) = stolen_ext loose loose' same k ks ds
  stolen_ext loose loose' same k ks (Does Syncs ∷ ds) = stolen_ext loose loose' same k [] ds
  stolen_ext loose loose' same k ks (Does (Ends v gone) ∷ ds) = stolen_ext loose loose' same k ks ds
  stolen_ext loose loose' same k ks (Does (Passes m) ∷ ds) = stolen_ext loose loose' same k ks ds
  stolen_ext loose loose' same k ks (Invokes Call w ∷ ds) = stolen_ext loose loose' same (suc k) ks ds
  stolen_ext loose loose' same k ks (Invokes Spawn w ∷ ds) = ap (λ t. stolen_in loose' (suc k) (cond t (ks ++ k ∷ []) ks) ds) (same k) ∙ stolen_ext loose loose' same (suc k) (cond (loose k) (ks ++ k ∷ []) ks) ds

  -- the flags of the children before it are the same
  pub stolen_spawn : (loose loose' : ℕ → Bool) (z : ℕ) → ((q : ℕ) → q < z → loose' q ≡ loose q) → (k : ℕ) (ks : List ℕ) (ds : List (Deed W)) (w : W) → z ≡ k + started ds
      → stolen_in loose' k ks (ds ++ Invokes Spawn w ∷ []) ≡ cond (loose' z) (stolen_in loose k ks ds ++ z ∷ []) (stolen_in loose k ks ds)
  stolen_spawn loose loose' z same k ks [] w e = let at : k ≡ z = omega (arith, e) in ap (λ j. cond (loose' j) (ks ++ j ∷ []) ks) at
  stolen_spawn loose loose' z same k ks (Does (Reads c v) ∷ ds) w e = stolen_spawn loose loose' z same k ks ds w e
  stolen_spawn loose loose' z same k ks (Does (Writes c v) ∷ ds) w e = stolen_spawn loose loose' z same k ks ds w e
  stolen_spawn loose loose' z same k ks (Does Syncs ∷ ds) w e = stolen_spawn loose loose' z same k [] ds w e
  stolen_spawn loose loose' z same k ks (Does (Ends v gone) ∷ ds) w e = stolen_spawn loose loose' z same k ks ds w e
  stolen_spawn loose loose' z same k ks (Does (Passes m) ∷ ds) w e = stolen_spawn loose loose' z same k ks ds w e
  stolen_spawn loose loose' z same k ks (Invokes Call u ∷ ds) w e = let n : z ≡ suc k + started ds = omega (arith, e) in stolen_spawn loose loose' z same (suc k) ks ds w n
  stolen_spawn loose loose' z same k ks (Invokes Spawn u ∷ ds) w e =
      let n : z ≡ suc k + started ds = omega (arith, e) in
      ap (λ t. stolen_in loose' (suc k) (cond t (ks ++ k ∷ []) ks) (ds ++ Invokes Spawn w ∷ [])) (same k (omega (arith, n))) ∙ stolen_spawn loose loose' z same (suc k) (cond (loose k) (ks ++ k ∷ []) ks) ds w n

  pub stolen_low : (loose : ℕ → Bool) (k : ℕ) (ks : List ℕ) (ds : List (Deed W)) (z : ℕ) → z ≡ k + started ds → greatest ks < k → greatest (stolen_in loose k ks ds) < z
  stolen_low loose k ks [] z e low = omega (arith, e, low)
  stolen_low loose k ks (Does (Reads c v) ∷ ds) z e low = stolen_low loose k ks ds z e low
  stolen_low loose k ks (Does (Writes c v) ∷ ds) z e low = stolen_low loose k ks ds z e low
  stolen_low loose k ks (Does Syncs ∷ ds) z e low = stolen_low loose k [] ds z e (omega (arith, low))
  stolen_low loose k ks (Does (Ends v gone) ∷ ds) z e low = stolen_low loose k ks ds z e low
  stolen_low loose k ks (Does (Passes m) ∷ ds) z e low = stolen_low loose k ks ds z e low
  stolen_low loose k ks (Invokes Call w ∷ ds) z e low = stolen_low loose (suc k) ks ds z (omega (arith, e)) (omega (arith, low))
  stolen_low loose k ks (Invokes Spawn w ∷ ds) z e low = stolen_low loose (suc k) (cond (loose k) (ks ++ k ∷ []) ks) ds z (omega (arith, e)) (low_cond (loose k) k ks low)
