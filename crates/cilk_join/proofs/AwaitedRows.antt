-- Rows for runs of any type.
--
-- - `run_there`, `set_there`, `run_past`, `with_past`, `parts_are`: reads and writes by places;
-- - `there_stands`, `stands_there`: a key's place is in the list exactly where it is awaited;
-- - `placed_by`, `restored`: a piece comes in by these writes, and goes back;
-- - `parts_shown`, `keys_shown`, `placed_shown`, `restored_shown`: of what a row shows.
use Rattle.std.proofs.Common.{◌≡◌, ◌<◌, ◌≤◌, inl, inr, ⊎_elim, ℕ, zero, suc, nat_eq, eq-eqb, eqb-true, Bool, true, false, List, [], ◌∷◌, length, slice_index_or, slice_set, Option, Some, None, option_map, map, refl, sym, ap, ap₂, ◌∙◌, ◌+◌, subst, arith}
use Rattle.cilk_join.specs.declared.row.Parts.{Parts}
use Rattle.cilk_join.specs.declared.row.Wait.{Wait}
use Rattle.cilk_join.specs.AwaitedRows.{RowValue, Stands, ahead, closed, count, keys, opened, parts_at, parts_of, place_of, placed, replaced, row, row_shown, run_at, runs_in, wait, wait_shown, with_beside, with_run}

module _ {P V : Type 0} where
  pub run_there : (r : Option V) (ws : List (Wait P V)) (i : ℕ) (w : Wait P V) → w ≡ slice_index_or ws i w → i < length ws → w.run ≡ run_at r ws (suc i)
  run_there r [] i w q h = let f : ⊥ = omega (arith, h) in absurd f
  run_there r (y ∷ ws) zero w q h = ap (λ (a : Wait P V). a.run) q
  run_there r (y ∷ ws) (suc i) w q h = run_there y.run ws i w q (omega (arith, h))

  pub set_there : (r : Option V) (ws : List (Wait P V)) (i : ℕ) (w : Wait P V) (h : Option V) → w ≡ slice_index_or ws i w → i < length ws → row r (slice_set ws i (wait w.key w.goes_on h)) ≡ with_run r ws (suc i) h
  set_there r [] i w h q l = let f : ⊥ = omega (arith, l) in absurd f
  set_there r (y ∷ ws) zero w h q l = ap (λ (a : Wait P V). row r (wait a.key a.goes_on h ∷ ws)) q
  set_there r (y ∷ ws) (suc i) w h q l = ap (ahead r y.key y.goes_on) (set_there y.run ws i w h q (omega (arith, l)))

  pub run_past : (r : Option V) (ws : List (Wait P V)) (i : ℕ) → length ws ≤ i → run_at r ws (suc i) ≡ None
  run_past r [] i h = refl
  run_past r (w ∷ ws) zero h = let f : ⊥ = omega (arith, h) in absurd f
  run_past r (w ∷ ws) (suc i) h = run_past w.run ws i (omega (arith, h))

  pub with_past : (r : Option V) (ws : List (Wait P V)) (i : ℕ) (h : Option V) → length ws ≤ i → with_run r ws (suc i) h ≡ row r ws
  with_past r [] i h l = refl
  with_past r (w ∷ ws) zero h l = let f : ⊥ = omega (arith, l) in absurd f
  with_past r (w ∷ ws) (suc i) h l = ap (ahead r w.key w.goes_on) (with_past w.run ws i h (omega (arith, l)))

  -- what is after a place stays when the run before it goes
  run_after : (r x : Option V) (ws : List (Wait P V)) (n : ℕ) → (let s = with_run r ws n x in run_at s.run s.waits (suc n)) ≡ run_at r ws (suc n)
  run_after r x [] zero = refl
  run_after r x (w ∷ ws) zero = refl
  run_after r x [] (suc n) = refl
  run_after r x (w ∷ ws) (suc n) = run_after w.run x ws n

  pub parts_are : (r s : RowValue P V) (n : ℕ) (x : V) (left right : Option V) → left ≡ run_at r.run r.waits n → s ≡ replaced r n None → right ≡ run_at s.run s.waits (suc n) → (record { left = left; piece = x; right = right }) ≡ parts_at r n x
  parts_are r s n x left right a b c i = record { left = a i; piece = x; right = (c ∙ ap (λ (s : RowValue P V). run_at s.run s.waits (suc n)) b ∙ run_after r.run None r.waits n) i }

  -- ---- the place of a key

  pub there_stands : (ws : List (Wait P V)) (k : ℕ) → place_of ws k < length ws → Stands (keys ws) k
  there_stands [] k h = let f : ⊥ = omega (arith, h) in absurd f
  there_stands (w ∷ ws) k h = go (nat_eq w.key k) refl (there_stands ws k) h
    where
      go : (b : Bool) → nat_eq w.key k ≡ b → (place_of ws k < length ws → Stands (keys ws) k) → place_of (w ∷ ws) k < length (w ∷ ws) → Stands (keys (w ∷ ws)) k
      go true e f h = inl (eqb-true w.key k e)
      go false e f h = let h' : suc (place_of ws k) < length (w ∷ ws) = rw e at h in inr (f (omega (arith, h')))

  pub stands_there : (ws : List (Wait P V)) (k : ℕ) → Stands (keys ws) k → place_of ws k < length ws
  stands_there [] k h = absurd h
  stands_there (w ∷ ws) k h = go (nat_eq w.key k) refl (stands_there ws k) h
    where
      go : (b : Bool) → nat_eq w.key k ≡ b → (Stands (keys ws) k → place_of ws k < length ws) → Stands (keys (w ∷ ws)) k → place_of (w ∷ ws) k < length (w ∷ ws)
      go true e f h = rw e (omega arith)
      go false e f h = rw e (⊎_elim (λ q. let z : true ≡ false = sym (eq-eqb w.key k q) ∙ e in let c : ⊥ = cc in absurd c) (λ q. let l = f q in omega (arith, l)) h)

  -- ---- a piece comes in, and goes back

  put_back : (run : Option V) (ws : List (Wait P V)) (n : ℕ) → with_beside (opened (row run ws) n) n (run_at run ws n) (run_at run ws (suc n)) ≡ row run ws
  put_back run [] zero = refl
  put_back run (w ∷ ws) zero = refl
  put_back run [] (suc n) = refl
  put_back run (w ∷ ws) (suc n) = ap (ahead run w.key w.goes_on) (put_back w.run ws n)

  pub restored : (r s : RowValue P V) (n : ℕ) (x : V) (parts : Parts V) → parts ≡ parts_at r n x → s ≡ opened r n → (left right : Option V) → left ≡ parts.left → right ≡ parts.right → with_beside s n left right ≡ r
  restored r s n x parts a b left right c d =
      ap (λ s. with_beside s n left right) b
      ∙ ap₂ (λ l q. with_beside (opened r n) n l q) (c ∙ ap (λ (p : Parts V). p.left) a) (d ∙ ap (λ (p : Parts V). p.right) a)
      ∙ put_back r.run r.waits n

module _ {V W : Type 0} (f : V → W) where
  -- the whole of three shows what is between the values that they show
  abbrev pub IsWhole : (Option W → W → Option W → W) → Parts V → V → Type 0
  IsWhole between p m = f m ≡ between (option_map f p.left) (f p.piece) (option_map f p.right)

  count_shown : (run : Option V) → count (option_map f run) ≡ count run
  count_shown None = refl
  count_shown (Some v) = refl

module _ {P V W : Type 0} (f : V → W) (between : Option W → W → Option W → W) where
  abbrev Places : RowValue P V → ℕ → V → V → Type 0
  Places r k x m = let n = place_of r.waits k in IsWhole f between (parts_at r n x) m → (let s = row_shown f r in row_shown f (closed (opened r n) n m) ≡ placed between s.run s.waits k (f x))

  step : (run : Option V) (w : Wait P V) (ws : List (Wait P V)) (k : ℕ) (x m : V) (b : Bool) → nat_eq w.key k ≡ b → Places (row w.run ws) k x m → Places (row run (w ∷ ws)) k x m
  step run w ws k x m true e h = rw e (λ is. ap (λ v. row (Some v) (map (wait_shown f) ws)) is)
  step run w ws k x m false e h = rw e (λ is. ap (ahead (option_map f run) w.key w.goes_on) (h is))

  places : (run : Option V) (ws : List (Wait P V)) (k : ℕ) (x m : V) → Places (row run ws) k x m
  places run [] k x m is = ap (λ v. row (Some v) []) is
  places run (w ∷ ws) k x m is = step run w ws k x m (nat_eq w.key k) refl (places w.run ws k x m) is

  -- the place is opened, and the whole goes in
  pub placed_shown : (r s : RowValue P V) (k n : ℕ) (x m : V) (parts : Parts V) → n ≡ place_of r.waits k → parts ≡ parts_at r n x → s ≡ opened r n → IsWhole f between parts m → (let t = row_shown f r in row_shown f (closed s n m) ≡ placed between t.run t.waits k (f x))
  placed_shown r s k n x m parts a b c is =
      ap₂ (λ s n. row_shown f (closed s n m)) (c ∙ ap (opened r) a) a
      ∙ places r.run r.waits k x m (subst (λ p. IsWhole f between p m) (b ∙ ap (λ n. parts_at r n x) a) is)

module _ {P V W : Type 0} (f : V → W) where
  shown_with : (run : Option V) (ws : List (Wait P V)) (n : ℕ) (x : Option V) → row_shown f (with_run run ws n x) ≡ with_run (option_map f run) (map (wait_shown f) ws) n (option_map f x)
  shown_with run ws zero x = refl
  shown_with run [] (suc n) x = refl
  shown_with run (w ∷ ws) (suc n) x = ap (ahead (option_map f run) w.key w.goes_on) (shown_with w.run ws n x)

  shown_beside : (s : RowValue P V) (n : ℕ) (left right : Option V) → row_shown f (with_beside s n left right) ≡ with_beside (row_shown f s) n (option_map f left) (option_map f right)
  shown_beside s n left right =
      let t = replaced s n left in
      shown_with t.run t.waits (suc n) right ∙ ap (λ (t : RowValue P W). replaced t (suc n) (option_map f right)) (shown_with s.run s.waits n left)

  -- runs that show the same go in again
  pub restored_shown : (r s : RowValue P V) (n : ℕ) (x : V) (parts : Parts V) → parts ≡ parts_at r n x → s ≡ opened r n → (left right : Option V) → option_map f left ≡ option_map f parts.left → option_map f right ≡ option_map f parts.right → row_shown f (with_beside s n left right) ≡ row_shown f r
  restored_shown r s n x parts a b left right c d =
      shown_beside s n left right ∙ ap₂ (λ l q. with_beside (row_shown f s) n l q) c d ∙ sym (shown_beside s n parts.left parts.right)
      ∙ ap (row_shown f) (restored r s n x parts a b parts.left parts.right refl refl)

  runs_shown : (ws : List (Wait P V)) → runs_in (map (wait_shown f) ws) ≡ runs_in ws
  runs_shown [] = refl
  runs_shown (w ∷ ws) = ap₂ (λ m n. m + n) (count_shown f w.run) (runs_shown ws)

  pub parts_shown : (r : RowValue P V) → parts_of (row_shown f r) ≡ parts_of r
  parts_shown r = ap₂ (λ m n. m + n) (count_shown f r.run) (runs_shown r.waits)

  pub keys_shown : (ws : List (Wait P V)) → keys (map (wait_shown f) ws) ≡ keys ws
  keys_shown [] = refl
  keys_shown (w ∷ ws) = ap (λ ks. w.key ∷ ks) (keys_shown ws)

-- ---- where each run shows itself

option_same : {V : Type 0} (o : Option V) → option_map (λ v. v) o ≡ o
option_same None = refl
option_same (Some v) = refl

module _ {P V : Type 0} where
  waits_same : (ws : List (Wait P V)) → map (wait_shown (λ v. v)) ws ≡ ws
  waits_same [] = refl
  waits_same (w ∷ ws) = ap₂ (λ run ws. wait w.key w.goes_on run ∷ ws) (option_same w.run) (waits_same ws)

  row_same : (r : RowValue P V) → row_shown (λ v. v) r ≡ r
  row_same r = ap₂ row (option_same r.run) (waits_same r.waits)

  pub placed_by : (between : Option V → V → Option V → V) (r s : RowValue P V) (k n : ℕ) (x m : V) (parts : Parts V) → n ≡ place_of r.waits k → parts ≡ parts_at r n x → s ≡ opened r n → m ≡ between parts.left parts.piece parts.right → closed s n m ≡ placed between r.run r.waits k x
  placed_by between r s k n x m parts a b c is =
      sym (row_same (closed s n m))
      ∙ placed_shown (λ v. v) between r s k n x m parts a b c (is ∙ sym (ap₂ (λ l q. between l parts.piece q) (option_same parts.left) (option_same parts.right)))
      ∙ ap (λ (t : RowValue P V). placed between t.run t.waits k x) (row_same r)
