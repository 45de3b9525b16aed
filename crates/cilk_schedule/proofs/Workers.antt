-- Which workers there are.
--
-- - `inside`: a place of a list;
-- - `is_held`: one that has a frame is there;
-- - `is_there`: one that is idle is there;
-- - `same_at`, `some_of`, `holds_true`: the results of a look-up and a test.
use Rattle.std.proofs.Common.{◌≡◌, ◌<◌, ◌≤◌, ℕ, zero, suc, Bool, true, false, List, [], ◌∷◌, length, slice_get, IsTrue, Option, Some, None, refl, sym, ◌∙◌, arith}
use Rattle.std.specs.Option.{is_some}
use Rattle.cilk_scheduler.specs.Workers.{frame_in, held_by, is_free, is_idle}
use Rattle.cilk_scheduler.specs.declared.frame_state.Worker.{Worker}

pub inside : {A : Type 0} (ws : List A) (w : ℕ) (u : A) → slice_get ws w ≡ Some u → w < length ws
inside [] w u h = let e : None ≡ Some u = h in cc
inside (x ∷ ws) zero u h = omega arith
inside (x ∷ ws) (suc w) u h = let less = inside ws w u h in omega (arith, less)

pub is_held : (ws : List Worker) (w k : ℕ) → held_by ws w ≡ Some k → (0 < w) × (w ≤ length ws)
is_held ws zero k h = let e : None ≡ Some k = h in cc
is_held ws (suc w) k h = by (slice_get ws w) refl h
  where
    by : (o : Option Worker) → slice_get ws w ≡ o → frame_in o ≡ Some k → (0 < suc w) × (suc w ≤ length ws)
    by None e q = let z : None ≡ Some k = q in cc
    by (Some u) e q = let less = inside ws w u e in (omega arith, omega (arith, less))

pub is_there : (ws : List Worker) (w : ℕ) → is_idle ws w ≡ true → (0 < w) × (w ≤ length ws)
is_there ws zero h = let e : false ≡ true = h in cc
is_there ws (suc w) h = by (slice_get ws w) refl h
  where
    by : (o : Option Worker) → slice_get ws w ≡ o → is_free o ≡ true → (0 < suc w) × (suc w ≤ length ws)
    by None e q = let z : false ≡ true = q in cc
    by (Some u) e q = let less = inside ws w u e in (omega arith, omega (arith, less))

pub some_of : {A : Type 0} (o : Option A) → is_some o ≡ true → (x : A) × (o ≡ Some x)
some_of None h = let e : false ≡ true = h in cc
some_of (Some x) h = (x, refl)

pub holds_true : (b : Bool) → IsTrue b → b ≡ true
holds_true b h = h

pub same_at : {A : Type 0} (xs : List A) (k : ℕ) (x y : A) → slice_get xs k ≡ Some x → slice_get xs k ≡ Some y → x ≡ y
same_at xs k x y h g = let e : Some x ≡ Some y = sym h ∙ g in cc
