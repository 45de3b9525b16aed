-- The views that a frame's worker has.
--
-- - `resuming_event`, `resuming_child`: whether the last deed starts a child;
-- - `plain`, `unused`: a frame whose worker has the views of its own piece;
-- - `block_ext`, `carried_ext`: what the view is made of, and nothing else.
use Rattle.std.proofs.Common.{◌≡◌, inl, inr, ⊎_elim, ℕ, suc, Bool, true, false, cond, List, [], ◌∷◌, ◌++◌, refl, sym, ap, ap₂, ◌∙◌}
use Rattle.cilk_types.specs.declared.invocation.Invocation.TheVariants.{Call, Spawn}
use Rattle.cilk_types.specs.declared.invocation.Invocation.{Invocation}
use Rattle.cilk_monoid.specs.Laws.{MonoidStructure}
use Rattle.cilk_determinacy.specs.Runs.{Name, Event, Reads, Writes, Syncs, Ends, Passes, Deed, Does, Invokes}
use Rattle.cilk_determinacy.specs.Machine.{started, block_view}
use Rattle.cilk_scheduler.specs.Schedulers.{is_resuming, carried, IsUsed}

module _ {W : Type 0} where
  pub resuming_event : (ds : List (Deed W)) (e : Event) → is_resuming (ds ++ Does e ∷ []) ≡ false
  resuming_event [] e = refl
  resuming_event (Does a ∷ []) e = refl
  resuming_event (Invokes k w ∷ []) e = refl
  resuming_event (Does a ∷ d ∷ ds) e = resuming_event (d ∷ ds) e
  resuming_event (Invokes k w ∷ d ∷ ds) e = resuming_event (d ∷ ds) e

  pub resuming_child : (ds : List (Deed W)) (how : Invocation) (w : W) → is_resuming (ds ++ Invokes how w ∷ []) ≡ true
  resuming_child [] how w = refl
  resuming_child (Does a ∷ []) how w = refl
  resuming_child (Invokes k u ∷ []) how w = refl
  resuming_child (Does a ∷ d ∷ ds) how w = resuming_child (d ∷ ds) how w
  resuming_child (Invokes k u ∷ d ∷ ds) how w = resuming_child (d ∷ ds) how w

  -- a frame that is neither merged nor before a resume has its own piece's view
  pub plain : {V : Type 0} (M : MonoidStructure V) (piece : Name → V) (stolen : Name → Bool) (n : Name) (ds : List (Deed W)) (merged : Bool) → merged ≡ false → is_resuming ds ≡ false → carried M piece stolen n ds merged ≡ piece n
  plain M piece stolen n ds merged p q = rw (p, q) refl

  pub unused : (stolen : Name → Bool) (n : Name) (ds : List (Deed W)) (merged : Bool) (q : ℕ) → merged ≡ false → is_resuming ds ≡ false → IsUsed stolen n ds merged q → ⊥
  unused stolen n ds merged q p r h = ⊎_elim (λ a. let z : true ≡ false = sym a.0 ∙ p in cc) (λ a. let z : true ≡ false = sym a.1 ∙ r in cc) h

  -- a block's product is made of the pieces of its stolen children alone
  pub block_ext : {V : Type 0} (M : MonoidStructure V) (kid kid' : ℕ → V) (loose loose' : ℕ → Bool) → ((q : ℕ) → loose' q ≡ loose q) → ((q : ℕ) → loose q ≡ true → kid' q ≡ kid q) → (acc : V) (k : ℕ) (ds : List (Deed W))
      → block_view M kid' loose' acc k ds ≡ block_view M kid loose acc k ds
  block_ext M kid kid' loose loose' l p acc k [] = refl
  block_ext M kid kid' loose loose' l p acc k (Does (Reads c v) ∷ ds) = block_ext M kid kid' loose loose' l p acc k ds
  block_ext M kid kid' loose loose' l p acc k (Does (Writes c v) ∷ ds) = block_ext M kid kid' loose loose' l p acc k ds
  block_ext M kid kid' loose loose' l p acc k (Does Syncs ∷ ds) = block_ext M kid kid' loose loose' l p M.unit k ds
  block_ext M kid kid' loose loose' l p acc k (Does (Ends v gone) ∷ ds) = block_ext M kid kid' loose loose' l p acc k ds
  block_ext M kid kid' loose loose' l p acc k (Does (Passes m) ∷ ds) = block_ext M kid kid' loose loose' l p acc k ds
  block_ext M kid kid' loose loose' l p acc k (Invokes Call w ∷ ds) = block_ext M kid kid' loose loose' l p acc (suc k) ds
  block_ext {V = V} M kid kid' loose loose' l p acc k (Invokes Spawn w ∷ ds) =
      ap (λ a. block_view M kid' loose' a (suc k) ds) (same (loose k) refl) ∙ block_ext M kid kid' loose loose' l p (cond (loose k) (M.combine acc (kid k)) acc) (suc k) ds
    where
      same : (b : Bool) → loose k ≡ b → cond (loose' k) (M.combine acc (kid' k)) acc ≡ cond (loose k) (M.combine acc (kid k)) acc
      same true e = rw (l k, e) (ap (M.combine acc) (p k e))
      same false e = rw (l k, e) refl

  pub carried_ext : {V : Type 0} (M : MonoidStructure V) (piece piece' : Name → V) (stolen stolen' : Name → Bool) (n : Name) (ds : List (Deed W)) (merged : Bool) → piece' n ≡ piece n → ((q : ℕ) → stolen' (n ++ q ∷ []) ≡ stolen (n ++ q ∷ []))
      → ((q : ℕ) → IsUsed stolen n ds merged q → piece' (n ++ q ∷ []) ≡ piece (n ++ q ∷ [])) → carried M piece' stolen' n ds merged ≡ carried M piece stolen n ds merged
  carried_ext M piece piece' stolen stolen' n ds true own l used =
      ap₂ M.combine (block_ext M (λ k. piece (n ++ k ∷ [])) (λ k. piece' (n ++ k ∷ [])) (λ k. stolen (n ++ k ∷ [])) (λ k. stolen' (n ++ k ∷ [])) l (λ q t. used q (inl (refl, t))) M.unit 1 ds) own
  carried_ext {V = V} M piece piece' stolen stolen' n ds false own l used = by (is_resuming ds) refl (stolen (n ++ started ds ∷ [])) refl
    where
      by : (r : Bool) → is_resuming ds ≡ r → (t : Bool) → stolen (n ++ started ds ∷ []) ≡ t → cond (is_resuming ds) (cond (stolen' (n ++ started ds ∷ [])) (piece' n) (piece' (n ++ started ds ∷ []))) (piece' n) ≡ cond (is_resuming ds) (cond (stolen (n ++ started ds ∷ [])) (piece n) (piece (n ++ started ds ∷ []))) (piece n)
      by true r true t = rw (r, l (started ds), t) own
      by true r false t = rw (r, l (started ds), t) (used (started ds) (inr (refl, r, refl, t)))
      by false r t u = rw r own
