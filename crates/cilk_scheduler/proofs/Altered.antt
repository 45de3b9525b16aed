-- Workers of whom one changes, and a list without the element at a place.
--
-- - `altered_on`, `altered_from`: what each worker is after and before;
-- - `altered_map`, `altered_map_at`, `altered_set`, `altered_sum`: lists made from them;
-- - `skip`, `remove_get`, `skip_off`, `skip_one`, `remove_back`: places in a list without one;
-- - `without_none`, `without_one`, `withdrawn_is`, `offered_are`: continuations by names.
use Rattle.std.proofs.Common.{◌≡◌, ◌⊎◌, inl, inr, ◌+◌, ◌<◌, ℕ, zero, suc, true, false, List, [], ◌∷◌, ◌++◌, length, map, set, slice_get, sum, Some, None, refl, sym, ap, ap₂, ◌∙◌, arith}
use Rattle.std.specs.Prelude.{remove}
use Rattle.std.proofs.lemmas.List.{map-append}
use Rattle.std.proofs.lemmas.List.Sums.{sum_by-cons}
use Rattle.cilk_determinacy.specs.Runs.{Name, same_name}
use Rattle.cilk_scheduler.specs.declared.frame_state.Worker.{Worker}
use Rattle.cilk_scheduler.specs.Schedulers.{offers_of}
use Rattle.cilk_scheduler.specs.WorkerTables.{all_offered, withdrawn, without}
use Rattle.cilk_scheduler.specs.Workers.{altered, offers}

more_of : (y z : ℕ) (l : List ℕ) → y + 1 ≡ z → sum (y ∷ l) + 1 ≡ sum (z ∷ l)
more_of y z l e = let g = sum_by-cons {X = ℕ} (λ a. a) y l in let h = sum_by-cons {X = ℕ} (λ a. a) z l in omega (arith, g, h, e)

same_of : (y : ℕ) (k l : List ℕ) → sum k + 1 ≡ sum l → sum (y ∷ k) + 1 ≡ sum (y ∷ l)
same_of y k l e = let g = sum_by-cons {X = ℕ} (λ a. a) y k in let h = sum_by-cons {X = ℕ} (λ a. a) y l in omega (arith, g, h, e)

module _ (f : Worker → Worker) where
  -- a worker after the change
  abbrev pub Then : ℕ → ℕ → Worker → Worker → Type 0
  Then w v u u' = ((w ≡ v) × (u' ≡ f u)) ⊎ ((w ≡ v → ⊥) × (u' ≡ u))

  then_later : (w v : ℕ) (u u' : Worker) → Then w v u u' → Then (suc w) (suc v) u u'
  then_later w v u u' (inl q) = inl (ap suc q.0, q.1)
  then_later w v u u' (inr q) = inr (λ e. q.0 (let n : suc w ≡ suc v = e in omega (arith, n)), q.1)

  pub altered_on : (ws : List Worker) (w v : ℕ) (u : Worker) → slice_get ws v ≡ Some u → (u' : Worker) × (slice_get (altered f ws w) v ≡ Some u') × Then w v u u'
  altered_on [] w v u at = let no : None ≡ Some u = at in let z : ⊥ = cc in absurd z
  altered_on (x ∷ ws) zero zero u at = let q : x ≡ u = (let t : Some x ≡ Some u = at in cc) in (f x, refl, inl (refl, ap f q))
  altered_on (x ∷ ws) zero (suc v) u at = (u, at, inr (λ e. omega (arith, e), refl))
  altered_on (x ∷ ws) (suc w) zero u at = (u, at, inr (λ e. omega (arith, e), refl))
  altered_on (x ∷ ws) (suc w) (suc v) u at = let r = altered_on ws w v u at in (r.0, r.1, then_later w v u r.0 r.2)

  pub altered_from : (ws : List Worker) (w v : ℕ) (u' : Worker) → slice_get (altered f ws w) v ≡ Some u' → (u : Worker) × (slice_get ws v ≡ Some u) × Then w v u u'
  altered_from [] w v u' at = let no : None ≡ Some u' = at in let z : ⊥ = cc in absurd z
  altered_from (x ∷ ws) zero zero u' at = let q : f x ≡ u' = (let t : Some (f x) ≡ Some u' = at in cc) in (x, refl, inl (refl, sym q))
  altered_from (x ∷ ws) zero (suc v) u' at = (u', at, inr (λ e. omega (arith, e), refl))
  altered_from (x ∷ ws) (suc w) zero u' at = (u', at, inr (λ e. omega (arith, e), refl))
  altered_from (x ∷ ws) (suc w) (suc v) u' at = let r = altered_from ws w v u' at in (r.0, r.1, then_later w v r.0 u' r.2)

  pub altered_map : {A : Type 0} (F : Worker → A) (ws : List Worker) (w : ℕ) → ((u : Worker) → F (f u) ≡ F u) → map F (altered f ws w) ≡ map F ws
  altered_map F [] w same = refl
  altered_map F (x ∷ ws) zero same = ap (λ y. y ∷ map F ws) (same x)
  altered_map F (x ∷ ws) (suc w) same = ap (λ l. F x ∷ l) (altered_map F ws w same)

  pub altered_map_at : {A : Type 0} (F : Worker → A) (ws : List Worker) (w : ℕ) (u : Worker) → slice_get ws w ≡ Some u → F (f u) ≡ F u → map F (altered f ws w) ≡ map F ws
  altered_map_at F [] w u at same = refl
  altered_map_at F (x ∷ ws) zero u at same = let q : x ≡ u = (let t : Some x ≡ Some u = at in cc) in ap (λ y. y ∷ map F ws) (ap (λ z. F (f z)) q ∙ same ∙ ap F (sym q))
  altered_map_at F (x ∷ ws) (suc w) u at same = ap (λ l. F x ∷ l) (altered_map_at F ws w u at same)

  pub altered_set : {A : Type 0} (F : Worker → A) (a : A) (ws : List Worker) (w : ℕ) → ((u : Worker) → F (f u) ≡ a) → map F (altered f ws w) ≡ set (map F ws) w a
  altered_set F a [] w is = refl
  altered_set F a (x ∷ ws) zero is = ap (λ y. y ∷ map F ws) (is x)
  altered_set F a (x ∷ ws) (suc w) is = ap (λ l. F x ∷ l) (altered_set F a ws w is)

  pub altered_sum : (F : Worker → ℕ) (ws : List Worker) (w : ℕ) (u : Worker) → slice_get ws w ≡ Some u → F (f u) + 1 ≡ F u → sum (map F (altered f ws w)) + 1 ≡ sum (map F ws)
  altered_sum F [] w u at less = let no : None ≡ Some u = at in let z : ⊥ = cc in absurd z
  altered_sum F (x ∷ ws) zero u at less =
      let q : x ≡ u = (let t : Some x ≡ Some u = at in cc) in
      let e : F (f x) + 1 ≡ F x = ap (λ z. F (f z) + 1) q ∙ less ∙ ap F (sym q) in
      more_of (F (f x)) (F x) (map F ws) e
  altered_sum F (x ∷ ws) (suc w) u at less = same_of (F x) (map F (altered f ws w)) (map F ws) (altered_sum F ws w u at less)

-- ---- a list without an element

-- the place that an element had
abbrev pub skip : ℕ → ℕ → ℕ
skip zero q = suc q
skip (suc at) zero = zero
skip (suc at) (suc q) = suc (skip at q)

pub remove_get : {A : Type 0} (xs : List A) (at q : ℕ) → at < length xs → slice_get (remove xs at) q ≡ slice_get xs (skip at q)
remove_get [] at q low = absurd (omega (arith, low))
remove_get (x ∷ xs) zero q low = refl
remove_get (x ∷ xs) (suc at) zero low = refl
remove_get (x ∷ xs) (suc at) (suc q) low = remove_get xs at q (omega (arith, low))

pub skip_off : (at q : ℕ) → skip at q ≡ at → ⊥
skip_off zero q e = let z : suc q ≡ 0 = e in absurd (omega (arith, z))
skip_off (suc at) zero e = let z : 0 ≡ suc at = e in absurd (omega (arith, z))
skip_off (suc at) (suc q) e = let z : suc (skip at q) ≡ suc at = e in skip_off at q (omega (arith, z))

pub skip_one : (at q r : ℕ) → skip at q ≡ skip at r → q ≡ r
skip_one zero q r e = let z : suc q ≡ suc r = e in omega (arith, z)
skip_one (suc at) zero zero e = refl
skip_one (suc at) zero (suc r) e = let z : 0 ≡ suc (skip at r) = e in absurd (omega (arith, z))
skip_one (suc at) (suc q) zero e = let z : suc (skip at q) ≡ 0 = e in absurd (omega (arith, z))
skip_one (suc at) (suc q) (suc r) e = let z : suc (skip at q) ≡ suc (skip at r) = e in ap suc (skip_one at q r (omega (arith, z)))

pub remove_back : {A : Type 0} (xs : List A) (at q : ℕ) (a : A) → slice_get xs q ≡ Some a → (at ≡ q → ⊥) → (r : ℕ) × (slice_get (remove xs at) r ≡ Some a)
remove_back [] at q a h ne = let no : None ≡ Some a = h in let z : ⊥ = cc in absurd z
remove_back (x ∷ xs) zero zero a h ne = absurd (ne refl)
remove_back (x ∷ xs) zero (suc q) a h ne = (q, h)
remove_back (x ∷ xs) (suc at) zero a h ne = (0, h)
remove_back (x ∷ xs) (suc at) (suc q) a h ne = let r = remove_back xs at q a h (λ e. ne (ap suc e)) in (suc r.0, r.1)

-- ---- continuations by names

module _ (name : ℕ → Name) (n : Name) where
  off_list : (m : Name) (ms : List Name) → same_name m n ≡ false → without (m ∷ ms) n ≡ m ∷ without ms n
  off_list m ms e = rw e refl

  on_list : (m : Name) (ms : List Name) → same_name m n ≡ true → without (m ∷ ms) n ≡ without ms n
  on_list m ms e = rw e refl

  pub without_none : (items : List ℕ) → ((q j : ℕ) → slice_get items q ≡ Some j → same_name (name j) n ≡ false) → without (map name items) n ≡ map name items
  without_none [] off = refl
  without_none (j ∷ items) off = off_list (name j) (map name items) (off 0 j refl) ∙ ap (λ l. name j ∷ l) (without_none items (λ q i at. off (suc q) i at))

  pub without_one : (items : List ℕ) (at k : ℕ) → slice_get items at ≡ Some k → same_name (name k) n ≡ true → ((q j : ℕ) → slice_get items q ≡ Some j → (at ≡ q → ⊥) → same_name (name j) n ≡ false)
      → without (map name items) n ≡ map name (remove items at)
  without_one [] at k h is off = let no : None ≡ Some k = h in let z : ⊥ = cc in absurd z
  without_one (j ∷ items) zero k h is off =
      let same : j ≡ k = (let q : Some j ≡ Some k = h in cc) in
      on_list (name j) (map name items) (ap (λ i. same_name (name i) n) same ∙ is) ∙ without_none items (λ q i at. off (suc q) i at (λ e. omega (arith, e)))
  without_one (j ∷ items) (suc at) k h is off =
      off_list (name j) (map name items) (off 0 j refl (λ e. omega (arith, e))) ∙ ap (λ l. name j ∷ l) (without_one items at k h is (λ q i here ne. off (suc q) i here (λ e. ne (let z : suc at ≡ suc q = e in omega (arith, z)))))

  withdrawn_none : (ws : List Worker) → ((v : ℕ) (u : Worker) → slice_get ws v ≡ Some u → without (offers_of name u) n ≡ offers_of name u) → withdrawn (map (offers_of name) ws) n ≡ map (offers_of name) ws
  withdrawn_none [] each = refl
  withdrawn_none (u ∷ ws) each = ap₂ (λ a l. a ∷ l) (each 0 u refl) (withdrawn_none ws (λ v y at. each (suc v) y at))

  pub withdrawn_is : (f : Worker → Worker) (ws : List Worker) (victim : ℕ)
      → ((v : ℕ) (u : Worker) → slice_get ws v ≡ Some u → (victim ≡ v → without (offers_of name u) n ≡ offers_of name (f u)) × ((victim ≡ v → ⊥) → without (offers_of name u) n ≡ offers_of name u))
      → withdrawn (map (offers_of name) ws) n ≡ map (offers_of name) (altered f ws victim)
  withdrawn_is f [] victim each = refl
  withdrawn_is f (u ∷ ws) zero each = let h = each 0 u refl in ap₂ (λ a l. a ∷ l) (h.0 refl) (withdrawn_none ws (λ v y at. let g = each (suc v) y at in g.1 (λ e. omega (arith, e))))
  withdrawn_is f (u ∷ ws) (suc victim) each =
      let h = each 0 u refl in
      ap₂ (λ a l. a ∷ l) (h.1 (λ e. omega (arith, e)))
      (withdrawn_is f ws victim (λ v y at. let g = each (suc v) y at in ((λ e. g.0 (ap suc e)), (λ ne. g.1 (λ e. ne (let z : suc victim ≡ suc v = e in omega (arith, z)))))))

pub offered_are : (name : ℕ → Name) (ws : List Worker) → all_offered (map (offers_of name) ws) ≡ map name (offers ws)
offered_are name [] = refl
offered_are name (u ∷ ws) = let o = u.offered in ap (λ l. map name o.items ++ l) (offered_are name ws) ∙ sym (map-append name o.items (offers ws))
