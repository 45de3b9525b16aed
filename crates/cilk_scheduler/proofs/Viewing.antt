-- Workers of whom one has other views.
--
-- - `viewing_get`, `viewing_from`: what each worker has before and after;
-- - `viewing_hands`, `viewing_offers`, `viewing_counts`: what they hold and offer;
-- - `viewing_at`, `viewing_own`: by a write at its place, and where its views are as they were.
use Rattle.std.proofs.Common.{◌≡◌, ◌<◌, ◌⊎◌, inl, inr, ⊎_elim, ℕ, zero, suc, List, [], ◌∷◌, length, map, slice_get, slice_index_or, slice_set, Some, None, refl, sym, ap, arith}
use Rattle.cilk_hypermap.specs.declared.hypermap.Hypermap.{Hypermap}
use Rattle.cilk_determinacy.specs.Runs.{Name}
use Rattle.cilk_scheduler.specs.declared.frame_state.Worker.{Worker}
use Rattle.cilk_scheduler.specs.Schedulers.{hand_of, offers_of}
use Rattle.cilk_scheduler.specs.Workers.{viewing}

module _ (h : Hypermap) where
  pub viewing_get : (ws : List Worker) (w v : ℕ) (u : Worker) → slice_get ws v ≡ Some u → (u' : Worker) × (slice_get (viewing h ws w) v ≡ Some u') × (u'.frame ≡ u.frame) × (u'.offered ≡ u.offered)
  viewing_get [] w v u at = let no : None ≡ Some u = at in let z : ⊥ = cc in absurd z
  viewing_get (x ∷ ws) zero zero u at = let q : x ≡ u = (let t : Some x ≡ Some u = at in cc) in (record x { views = h }, refl, ap (λ (y : Worker). y.frame) q, ap (λ (y : Worker). y.offered) q)
  viewing_get (x ∷ ws) zero (suc v) u at = (u, at, refl, refl)
  viewing_get (x ∷ ws) (suc w) zero u at = (u, at, refl, refl)
  viewing_get (x ∷ ws) (suc w) (suc v) u at = viewing_get ws w v u at

  pub viewing_from : (ws : List Worker) (w v : ℕ) (u' : Worker) → slice_get (viewing h ws w) v ≡ Some u'
      → (u : Worker) × (slice_get ws v ≡ Some u) × (u'.frame ≡ u.frame) × (u'.offered ≡ u.offered) × (((w ≡ v) × (u'.views ≡ h)) ⊎ ((w ≡ v → ⊥) × (u'.views ≡ u.views)))
  viewing_from [] w v u' at = let no : None ≡ Some u' = at in let z : ⊥ = cc in absurd z
  viewing_from (x ∷ ws) zero zero u' at =
      let q : record x { views = h } ≡ u' = (let t : Some (record x { views = h }) ≡ Some u' = at in cc) in
      (x, refl, ap (λ (y : Worker). y.frame) (sym q), ap (λ (y : Worker). y.offered) (sym q), inl (refl, ap (λ (y : Worker). y.views) (sym q)))
  viewing_from (x ∷ ws) zero (suc v) u' at = (u', at, refl, refl, inr (λ e. omega (arith, e), refl))
  viewing_from (x ∷ ws) (suc w) zero u' at = (u', at, refl, refl, inr (λ e. omega (arith, e), refl))
  viewing_from (x ∷ ws) (suc w) (suc v) u' at =
      let r = viewing_from ws w v u' at in
      (r.0, r.1, r.2, r.3, ⊎_elim (λ (q : (w ≡ v) × (u'.views ≡ h)). inl (ap suc q.0, q.1)) (λ q. inr (λ e. q.0 (let n : suc w ≡ suc v = e in omega (arith, n)), q.1)) r.4)

  pub viewing_hands : (name : ℕ → Name) (ws : List Worker) (w : ℕ) → map (hand_of name) (viewing h ws w) ≡ map (hand_of name) ws
  viewing_hands name [] w = refl
  viewing_hands name (x ∷ ws) zero = refl
  viewing_hands name (x ∷ ws) (suc w) = ap (λ l. hand_of name x ∷ l) (viewing_hands name ws w)

  pub viewing_offers : (name : ℕ → Name) (ws : List Worker) (w : ℕ) → map (offers_of name) (viewing h ws w) ≡ map (offers_of name) ws
  viewing_offers name [] w = refl
  viewing_offers name (x ∷ ws) zero = refl
  viewing_offers name (x ∷ ws) (suc w) = ap (λ l. offers_of name x ∷ l) (viewing_offers name ws w)

  pub viewing_counts : (ws : List Worker) (w : ℕ) → map (λ (u : Worker). let o = u.offered in length o.items) (viewing h ws w) ≡ map (λ (u : Worker). let o = u.offered in length o.items) ws
  viewing_counts [] w = refl
  viewing_counts (x ∷ ws) zero = refl
  viewing_counts (x ∷ ws) (suc w) = ap (λ l. (let o = x.offered in length o.items) ∷ l) (viewing_counts ws w)

  -- by a write at its place
  pub viewing_at : (ws : List Worker) (w : ℕ) (u : Worker) → u ≡ slice_index_or ws w u → w < length ws → slice_set ws w (record u { views = h }) ≡ viewing h ws w
  viewing_at [] w u e low = absurd (omega (arith, low))
  viewing_at (x ∷ ws) zero u e low = ap (λ (y : Worker). record y { views = h } ∷ ws) e
  viewing_at (x ∷ ws) (suc w) u e low = ap (λ l. x ∷ l) (viewing_at ws w u e (omega (arith, low)))

-- a worker that has the views that it had
pub viewing_own : (ws : List Worker) (w : ℕ) (u : Worker) → slice_get ws w ≡ Some u → viewing u.views ws w ≡ ws
viewing_own [] w u at = refl
viewing_own (x ∷ ws) zero u at =
    let same : u ≡ x = (let q : Some x ≡ Some u = at in cc) in
    ap (λ (y : Worker). record x { views = y.views } ∷ ws) same
viewing_own (x ∷ ws) (suc w) u at = ap (λ l. x ∷ l) (viewing_own ws w u at)
