-- The parent after one more child: deeds, block, views and lists.
--
-- - `stolen_child`, `end_child`, `strands_child`: one deed more, that starts a child;
-- - `lays_units`, `carried_unit`: a reducer without a view in any piece;
-- - `first_part`, `second_part`, `replicate_at`: places in lists;
-- - `newest_is`, `sum_more`: a worker that offers one continuation more;
-- - `still_offered`, `was_offered`, `offered_length`, `offers_by`, `not_waiting`: offers by a call
--   or a spawn.
use Rattle.std.proofs.Common.{◌≡◌, ◌⊎◌, inl, inr, ⊎_elim, ◌+◌, ◌<◌, ℕ, zero, suc, Bool, true, false, cond, ℤ, pos, List, [], ◌∷◌, ◌++◌, length, map, replicate, slice_get, sum, Option, Some, None, refl, sym, ap, ap₂, ◌∙◌, subst, arith}
use Rattle.std.proofs.lemmas.List.{length-replicate}
use Rattle.std.proofs.lemmas.List.Sums.{sum_by-cons}
use Rattle.cilk_types.specs.declared.event.Instance as numbered
use Rattle.cilk_types.specs.declared.invocation.Invocation.{Invocation}
use Rattle.cilk_types.specs.declared.invocation.Invocation.TheVariants.{Call, Spawn}
use Rattle.cilk_monoid.specs.Kinds.{structure_of}
use Rattle.cilk_monoid.specs.Values.{ViewValue}
use Rattle.cilk_monoid.specs.declared.kind.MonoidKind.{MonoidKind}
use Rattle.cilk_join.specs.Products.{Product}
use Rattle.cilk_join.specs.Rows.{Wait, wait}
use Rattle.cilk_determinacy.specs.Machine.{HasEnd, started, strands}
use Rattle.cilk_determinacy.specs.Runs.{Name, Reads, Writes, Syncs, Ends, Passes, Deed, Does, Invokes}
use Rattle.cilk_determinacy.specs.Reducers.{View, views_of}
use Rattle.cilk_determinacy.specs.FrameEnvViews.{IsViewOf}
use Rattle.cilk_determinacy.specs.FrameEnvs.{FrameEnv}
use Rattle.cilk_determinacy.proofs.FrameEnvViews.{are_multiplied}
use Rattle.cilk_scheduler.specs.declared.frame_state.Status.TheVariants.{Calling, Offered, Waiting}
use Rattle.cilk_scheduler.specs.declared.frame_state.Worker.{Worker}
use Rattle.cilk_scheduler.specs.Blocks.{stolen_in, IsRun, Lays}
use Rattle.cilk_scheduler.specs.Schedulers.{carried, IsUsed, is_resuming, offers_of, run_at, waits_at}
use Rattle.cilk_scheduler.specs.WorkerTables.{newest_of}
use Rattle.cilk_scheduler.specs.Invocations.{left_at, newly_offered, offering}
use Rattle.cilk_scheduler.specs.Workers.{altered}
use Rattle.cilk_scheduler.proofs.Plain.{length_more}
use Rattle.cilk_scheduler.proofs.Synced.{block_unit}

-- ---- one deed more

pub stolen_child : (loose : ℕ → Bool) (k : ℕ) (ks : List ℕ) (ds : List (Deed FrameEnv)) (how : Invocation) (w : FrameEnv) → loose (k + started ds) ≡ false → stolen_in loose k ks (ds ++ Invokes how w ∷ []) ≡ stolen_in loose k ks ds
stolen_child loose k ks [] Call w off = refl
stolen_child loose k ks [] Spawn w off = let is : k + 0 ≡ k = omega arith in ap (λ t. cond t (ks ++ k ∷ []) ks) (ap loose (sym is) ∙ off)
stolen_child loose k ks (Does (Reads c v) ∷ ds) how w off = stolen_child loose k ks ds how w off
stolen_child loose k ks (Does (Writes c v) ∷ ds) how w off = stolen_child loose k ks ds how w off
stolen_child loose k ks (Does Syncs ∷ ds) how w off = stolen_child loose k [] ds how w off
stolen_child loose k ks (Does (Ends v gone) ∷ ds) how w off = stolen_child loose k ks ds how w off
stolen_child loose k ks (Does (Passes m) ∷ ds) how w off = stolen_child loose k ks ds how w off
stolen_child loose k ks (Invokes Call u ∷ ds) how w off = let is : suc k + started ds ≡ k + suc (started ds) = omega arith in stolen_child loose (suc k) ks ds how w (ap loose is ∙ off)
stolen_child loose k ks (Invokes Spawn u ∷ ds) how w off =
    let is : suc k + started ds ≡ k + suc (started ds) = omega arith in
    stolen_child loose (suc k) (cond (loose k) (ks ++ k ∷ []) ks) ds how w (ap loose is ∙ off)

pub end_child : (ds : List (Deed FrameEnv)) (how : Invocation) (w : FrameEnv) → HasEnd (ds ++ Invokes how w ∷ []) → HasEnd ds
end_child [] how w g = g
end_child (Does (Reads c v) ∷ ds) how w g = end_child ds how w g
end_child (Does (Writes c v) ∷ ds) how w g = end_child ds how w g
end_child (Does Syncs ∷ ds) how w g = end_child ds how w g
end_child (Does (Ends v gone) ∷ ds) how w g = g
end_child (Does (Passes m) ∷ ds) how w g = end_child ds how w g
end_child (Invokes b u ∷ ds) how w g = end_child ds how w g

pub strands_child : (ds : List (Deed FrameEnv)) (how : Invocation) (w : FrameEnv) → strands (ds ++ Invokes how w ∷ []) ≡ strands ds
strands_child [] how w = refl
strands_child (Does e ∷ ds) how w = rw (strands_child ds how w) refl
strands_child (Invokes b u ∷ ds) how w = strands_child ds how w

-- ---- a reducer without a view in any piece

module _ (kind : MonoidKind) (i : numbered.Instance) where
  abbrev none : ViewValue
  none = (structure_of kind).unit

  abbrev IsNone : Option Product → Type 0
  IsNone run = (v : Product) → run ≡ Some v → v kind i ≡ (structure_of kind).unit

  run_none : (v : View) (run : Option Product) → v ≡ (views_of kind).unit → IsNone run → IsRun kind v (run_at kind i run)
  run_none v None e off = subst (λ z. IsViewOf kind z ((structure_of kind).unit)) (sym e) (let m = are_multiplied in m.unit kind)
  run_none v (Some r) e off = subst (λ z. IsViewOf kind z (r kind i)) (sym e) (subst (λ z. IsViewOf kind ((views_of kind).unit) z) (sym (off r refl)) (let m = are_multiplied in m.unit kind))

  -- the keys that are awaited are the same for all reducers
  pub lays_units : (kind' : MonoidKind) (j : numbered.Instance) (kid kid' : ℕ → View) (there : ℕ → Bool) (own own' : View) → own ≡ (views_of kind).unit → ((q : ℕ) → there q ≡ true → kid q ≡ (views_of kind).unit)
      → (acc acc' : View) (ks : List ℕ) (run : Option Product) (ws : List (Wait Product)) → acc ≡ (views_of kind).unit → IsNone run → ((q : ℕ) (a : Wait Product) → slice_get ws q ≡ Some a → IsNone a.run)
      → Lays kind' kid' there own' acc' ks (run_at kind' j run) (waits_at kind' j ws) → Lays kind kid there own acc ks (run_at kind i run) (waits_at kind i ws)
  lays_units kind' j kid kid' there own own' e each acc acc' [] run [] q off offs h = (run_none ((views_of kind).combine acc own) run (ap₂ (λ a o. (views_of kind).combine a o) q e) off, refl)
  lays_units kind' j kid kid' there own own' e each acc acc' [] run (w ∷ ws) q off offs h = let no = h.1 in let z : ⊥ = cc in absurd z
  lays_units kind' j kid kid' there own own' e each acc acc' (k ∷ ks) run ws q off offs (inl h) =
      inl (h.0, lays_units kind' j kid kid' there own own' e each ((views_of kind).combine acc (kid k)) ((views_of kind').combine acc' (kid' k)) ks run ws (ap₂ (λ a o. (views_of kind).combine a o) q (each k h.0)) off offs h.1)
  lays_units kind' j kid kid' there own own' e each acc acc' (k ∷ ks) run [] q off offs (inr h) = let no = h.3 in let z : ⊥ = cc in absurd z
  lays_units kind' j kid kid' there own own' e each acc acc' (k ∷ ks) run (w ∷ ws) q off offs (inr h) =
      let same : wait w.key (run_at kind' j w.run) ∷ waits_at kind' j ws ≡ wait k h.1 ∷ h.2 = h.3 in
      let first : wait w.key (run_at kind' j w.run) ≡ wait k h.1 = cc in
      let key : w.key ≡ k = ap (λ (a : Wait ViewValue). a.key) first in
      let after : run_at kind' j w.run ≡ h.1 = ap (λ (a : Wait ViewValue). a.run) first in
      let rest : waits_at kind' j ws ≡ h.2 = cc in
      inr (
        h.0,
        run_at kind i w.run,
        waits_at kind i ws,
        ap (λ n. wait n (run_at kind i w.run) ∷ waits_at kind i ws) key,
        run_none acc run q off,
        lays_units kind' j kid kid' there own own' e each ((views_of kind).unit) ((views_of kind').unit) ks w.run ws refl (offs 0 w refl) (λ q a at. offs (suc q) a at)
            (subst (λ r. Lays kind' kid' there own' ((views_of kind').unit) ks r (waits_at kind' j ws)) (sym after) (subst (λ r. Lays kind' kid' there own' ((views_of kind').unit) ks h.1 r) (sym rest) h.5)),
      )

pub carried_unit : (kind : MonoidKind) (piece : Name → View) (stolen : Name → Bool) (n : Name) (ds : List (Deed FrameEnv)) (merged : Bool) → piece n ≡ (views_of kind).unit
    → ((q : ℕ) → IsUsed stolen n ds merged q → piece (n ++ q ∷ []) ≡ (views_of kind).unit) → carried (views_of kind) piece stolen n ds merged ≡ (views_of kind).unit
carried_unit kind piece stolen n ds true own each = ap₂ (λ a o. (views_of kind).combine a o) (block_unit kind (λ k. piece (n ++ k ∷ [])) (λ k. stolen (n ++ k ∷ [])) (λ q is. each q (inl (refl, is))) 1 ds) own
carried_unit kind piece stolen n ds false own each = by (is_resuming ds) refl (stolen (n ++ started ds ∷ [])) refl
  where
    by : (r : Bool) → is_resuming ds ≡ r → (t : Bool) → stolen (n ++ started ds ∷ []) ≡ t → cond r (cond t (piece n) (piece (n ++ started ds ∷ []))) (piece n) ≡ (views_of kind).unit
    by true e true f = own
    by true e false f = each (started ds) (inr (refl, e, refl, f))
    by false e t f = own

-- ---- places in lists

pub first_part : {A : Type 0} (xs ys : List A) (q : ℕ) (a : A) → slice_get xs q ≡ Some a → slice_get (xs ++ ys) q ≡ Some a
first_part [] ys q a h = let no : None ≡ Some a = h in let z : ⊥ = cc in absurd z
first_part (x ∷ xs) ys zero a h = h
first_part (x ∷ xs) ys (suc q) a h = first_part xs ys q a h

pub second_part : {A : Type 0} (xs ys : List A) (q : ℕ) → slice_get (xs ++ ys) (length xs + q) ≡ slice_get ys q
second_part [] ys q = let is : 0 + q ≡ q = omega arith in ap (λ n. slice_get ys n) is
second_part (x ∷ xs) ys q = let is : suc (length xs) + q ≡ suc (length xs + q) = omega arith in ap (λ n. slice_get (x ∷ (xs ++ ys)) n) is ∙ second_part xs ys q

pub replicate_at : {A : Type 0} (n : ℕ) (a : A) (q : ℕ) → q < n → slice_get (replicate n a) q ≡ Some a
replicate_at zero a q lt = absurd (omega (arith, lt))
replicate_at (suc n) a zero lt = refl
replicate_at (suc n) a (suc q) lt = replicate_at n a q (omega (arith, lt))

-- which part a place is in
pub part_of : {A : Type 0} (xs : List A) (y : A) (q : ℕ) (a : A) → slice_get (xs ++ y ∷ []) q ≡ Some a → (slice_get xs q ≡ Some a) ⊎ ((q ≡ length xs) × (y ≡ a))
part_of [] y zero a h = inr (refl, (let t : Some y ≡ Some a = h in cc))
part_of [] y (suc q) a h = let no : None ≡ Some a = h in let z : ⊥ = cc in absurd z
part_of (x ∷ xs) y zero a h = inl h
part_of (x ∷ xs) y (suc q) a h = ⊎_elim (λ g. inl g) (λ g. inr (ap suc g.0, g.1)) (part_of xs y q a h)

-- ---- a worker that offers one continuation more

module _ (name : ℕ → Name) (n : Name) (u' : Worker) where
  pub newest_is : (ws : List Worker) (w : ℕ) (u : Worker) → slice_get ws w ≡ Some u → offers_of name u' ≡ offers_of name u ++ n ∷ [] → newest_of (map (offers_of name) ws) w n ≡ map (offers_of name) (altered (λ _. u') ws w)
  newest_is [] w u at same = refl
  newest_is (x ∷ ws) zero u at same =
      let is : x ≡ u = (let q : Some x ≡ Some u = at in cc) in
      ap (λ l. l ∷ map (offers_of name) ws) (ap (λ z. offers_of name z ++ n ∷ []) is ∙ sym same)
  newest_is (x ∷ ws) (suc w) u at same = ap (λ l. offers_of name x ∷ l) (newest_is ws w u at same)

sum_first : (y z m : ℕ) (l : List ℕ) → y ≡ z + m → sum (y ∷ l) ≡ sum (z ∷ l) + m
sum_first y z m l e = let g = sum_by-cons {X = ℕ} (λ a. a) y l in let h = sum_by-cons {X = ℕ} (λ a. a) z l in omega (arith, g, h, e)

sum_later : (y m : ℕ) (k l : List ℕ) → sum k ≡ sum l + m → sum (y ∷ k) ≡ sum (y ∷ l) + m
sum_later y m k l e = let g = sum_by-cons {X = ℕ} (λ a. a) y k in let h = sum_by-cons {X = ℕ} (λ a. a) y l in omega (arith, g, h, e)

pub sum_more : (F : Worker → ℕ) (f : Worker → Worker) (ws : List Worker) (w : ℕ) (u : Worker) (m : ℕ) → slice_get ws w ≡ Some u → F (f u) ≡ F u + m → sum (map F (altered f ws w)) ≡ sum (map F ws) + m
sum_more F f [] w u m at more = let no : None ≡ Some u = at in let z : ⊥ = cc in absurd z
sum_more F f (x ∷ ws) zero u m at more =
    let is : x ≡ u = (let q : Some x ≡ Some u = at in cc) in
    sum_first (F (f x)) (F x) m (map F ws) (ap (λ z. F (f z)) is ∙ more ∙ ap (λ z. F z + m) (sym is))
sum_more F f (x ∷ ws) (suc w) u m at more = sum_later (F x) m (map F (altered f ws w)) (map F ws) (sum_more F f ws w u m at more)

-- ---- the frame that starts it

-- a continuation that was offered is offered still, at its place
pub still_offered : (how : Invocation) (k : ℕ) (ks : List ℕ) (q j : ℕ) → slice_get ks q ≡ Some j → slice_get (offering how k ks) q ≡ Some j
still_offered Call k ks q j at = at
still_offered Spawn k ks q j at = first_part ks (k ∷ []) q j at

-- one that is offered was, or it is the newest
pub was_offered : (how : Invocation) (k : ℕ) (ks : List ℕ) (q j : ℕ) → slice_get (offering how k ks) q ≡ Some j → (slice_get ks q ≡ Some j) ⊎ ((how ≡ Spawn) × (q ≡ length ks) × (k ≡ j))
was_offered Call k ks q j at = inl at
was_offered Spawn k ks q j at = ⊎_elim (λ g. inl g) (λ g. inr (refl, g.0, g.1)) (part_of ks k q j at)

pub offered_length : (how : Invocation) (k : ℕ) (ks : List ℕ) → length (offering how k ks) ≡ length ks + newly_offered how
offered_length Call k ks = omega arith
offered_length Spawn k ks = length_more ks k

-- the frames whose continuations are offered after it, by names
abbrev pub offers_by : Invocation → List (List Name) → ℕ → Name → List (List Name)
offers_by Call ls w n = ls
offers_by Spawn ls w n = newest_of ls w n

pub not_waiting : (how : Invocation) (w : ℕ) → left_at how w ≡ Waiting → ⊥
not_waiting Call w q = let z : Calling ≡ Waiting = q in cc
not_waiting Spawn w q = let z : Offered w ≡ Waiting = q in cc

pub cells_length : (l : List ℤ) (n : ℕ) → length (l ++ replicate n (pos 0)) ≡ length l + n
cells_length [] n = let e = length-replicate n (pos 0) in omega (arith, e)
cells_length (x ∷ l) n = let e = cells_length l n in omega (arith, e)
