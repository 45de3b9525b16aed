-- Keys by their places.
--
-- - `widths`, `at`, `changed`: as many keys as locks; the one at a place; another there;
-- - `locks_more`, `locks_all`: one lock more, with its key; all of them;
-- - `keys_more`, `keys_all`: one key more of the locks that are there; all of them;
-- - `key_at`: the key at a place;
-- - `key_for`: the key of a block's shelf; `made_for`: it alone was used;
-- - `is_free`: a key that has put back a shelf.
use Rattle.std.proofs.Common.{◌≡◌, ◌<◌, ◌≤◌, ◌%◌, ℕ, zero, suc, List, [], ◌∷◌, ◌++◌, length, slice_get, slice_index_or, slice_set, take, ◌+◌, Option, Some, refl, sym, ap, ◌∙◌, subst, arith}
use Rattle.std.proofs.lemmas.Option.{slice_get_read}
use Rattle.crossbeam_queue.specs.declared.array_queue.Doing.{Doing}
use Rattle.crossbeam_queue.specs.declared.array_queue.Slotted.{Slotted}
use Rattle.crossbeam_queue.specs.Passes.{Pass}
use Rattle.cilk_workers.specs.declared.lock.KeyState.{KeyState}
use Rattle.cilk_workers.specs.declared.lock.KeyState.TheVariants.{New, Holds, Free}
use Rattle.cilk_workers.specs.declared.shelf.Place.{Place}
use Rattle.cilk_workers.specs.declared.shelf.Shelf.{Shelf}
use Rattle.cilk_workers.specs.Keys.{AreKeys, AreKeysFrom, IsFree, IsKeyAt, IsKeyFor, Makes, MakesFor}
use Rattle.cilk_workers.specs.Locks.{IsFreeAt, freed}
use Rattle.cilk_workers.specs.ShelfHistories.{ShelfStep}
use Rattle.cilk_workers.specs.Shelves.{place}

abbrev pub Key : Type 0
Key = Pass Shelf KeyState

pub is_free : (v w : KeyState) (back : Shelf) → w ≡ freed v back → IsFreeAt back.place w
is_free v w back is = subst (IsFreeAt back.place) (sym is) (by v)
  where
    by : (u : KeyState) → IsFreeAt back.place (freed u back)
    by New = refl
    by (Holds s n) = refl
    by (Free s last n) = refl

pub made_for : (ps new : List Key) (b i m : ℕ) (p q : Key) (step : ShelfStep) → i ≡ b % m → m ≡ length ps → i < length ps → p ≡ slice_index_or ps i p → new ≡ slice_set ps i q → Makes p step q → MakesFor b ps step new
made_for ps new b i m p q step is all lt there changed made =
    let same : i ≡ b % length ps = is ∙ ap (λ (k : ℕ). b % k) all in (
      p,
      q,
      subst (λ (k : ℕ). slice_get ps k ≡ Some p) same (slice_get_read ps (length ps) i p refl lt there),
      subst (λ (k : ℕ). new ≡ slice_set ps k q) same changed,
      made,
    )

module _ {A : Type 0} where
  take_whole : (xs : List A) (k : ℕ) → length xs ≤ k → take k xs ≡ xs
  take_whole [] zero le = refl
  take_whole [] (suc k) le = refl
  take_whole (x ∷ xs) zero le = absurd (omega (arith, le))
  take_whole (x ∷ xs) (suc k) le = ap (λ zs. x ∷ zs) (take_whole xs k (omega (arith, le)))

module _ {Q A : Type 0} where
  widths_from : (i n : ℕ) (ds : List (Slotted (Option Shelf) (Doing Shelf KeyState) Q A)) (ps : List Key) → AreKeysFrom i n ds ps → length ps ≡ length ds
  widths_from i n [] [] h = refl
  widths_from i n [] (p ∷ ps) h = absurd h
  widths_from i n (d ∷ ds) [] h = absurd h
  widths_from i n (d ∷ ds) (p ∷ ps) h = ap suc (widths_from (i + 1) n ds ps h.1)

  pub widths : (ds : List (Slotted (Option Shelf) (Doing Shelf KeyState) Q A)) (ps : List Key) → AreKeys ds ps → length ps ≡ length ds
  widths ds ps h = widths_from 0 (length ds) ds ps h

  -- a free key, with its place
  moved : (d : Slotted (Option Shelf) (Doing Shelf KeyState) Q A) (p : Key) (i j n : ℕ) → i ≡ j → IsFree d (place i n) p → IsFree d (place j n) p
  moved d p i j n same is = subst (λ (k : ℕ). IsFree d (place k n) p) same is

  at_from : (j n : ℕ) (ds : List (Slotted (Option Shelf) (Doing Shelf KeyState) Q A)) (ps : List Key) → AreKeysFrom j n ds ps → (i : ℕ) → i < length ds → (d : Slotted (Option Shelf) (Doing Shelf KeyState) Q A) (p : Key) → d ≡ slice_index_or ds i d → p ≡ slice_index_or ps i p → IsFree d (place (j + i) n) p
  at_from j n [] ps h i lt d p there there' = absurd (omega (arith, lt))
  at_from j n (e ∷ ds) [] h i lt d p there there' = absurd h
  at_from j n (e ∷ ds) (q ∷ ps) h zero lt d p there there' = moved d p j (j + 0) n (omega arith) (subst (λ (z : Slotted (Option Shelf) (Doing Shelf KeyState) Q A × Key). IsFree z.0 (place j n) z.1) (λ i. (sym there i, sym there' i)) h.0)
  at_from j n (e ∷ ds) (q ∷ ps) h (suc i) lt d p there there' = moved d p (j + 1 + i) (j + suc i) n (omega arith) (at_from (j + 1) n ds ps h.1 i (omega (arith, lt)) d p there there')

  pub at : (ds : List (Slotted (Option Shelf) (Doing Shelf KeyState) Q A)) (ps : List Key) → AreKeys ds ps → (i : ℕ) → i < length ds → (d : Slotted (Option Shelf) (Doing Shelf KeyState) Q A) (p : Key) → d ≡ slice_index_or ds i d → p ≡ slice_index_or ps i p → IsFree d (place i (length ds)) p
  at ds ps h i lt d p there there' = moved d p (0 + i) i (length ds) (omega arith) (at_from 0 (length ds) ds ps h i lt d p there there')

  changed_from : (j n : ℕ) (ds : List (Slotted (Option Shelf) (Doing Shelf KeyState) Q A)) (ps : List Key) → AreKeysFrom j n ds ps → (i : ℕ) → i < length ds → (d : Slotted (Option Shelf) (Doing Shelf KeyState) Q A) (p : Key) → d ≡ slice_index_or ds i d → IsFree d (place (j + i) n) p → AreKeysFrom j n ds (slice_set ps i p)
  changed_from j n [] ps h i lt d p there is = absurd (omega (arith, lt))
  changed_from j n (e ∷ ds) [] h i lt d p there is = absurd h
  changed_from j n (e ∷ ds) (q ∷ ps) h zero lt d p there is = (subst (λ (z : Slotted (Option Shelf) (Doing Shelf KeyState) Q A). IsFree z (place j n) p) there (moved d p (j + 0) j n (omega arith) is), h.1)
  changed_from j n (e ∷ ds) (q ∷ ps) h (suc i) lt d p there is = (h.0, changed_from (j + 1) n ds ps h.1 i (omega (arith, lt)) d p there (moved d p (j + suc i) (j + 1 + i) n (omega arith) is))

  pub changed : (ds : List (Slotted (Option Shelf) (Doing Shelf KeyState) Q A)) (ps : List Key) → AreKeys ds ps → (i : ℕ) → i < length ds → (d : Slotted (Option Shelf) (Doing Shelf KeyState) Q A) (p : Key) → d ≡ slice_index_or ds i d → IsFree d (place i (length ds)) p → AreKeys ds (slice_set ps i p)
  changed ds ps h i lt d p there is = changed_from 0 (length ds) ds ps h i lt d p there (moved d p i (0 + i) (length ds) (omega arith) is)

  -- the lock of a block's shelf
  pub key_for : (d : Slotted (Option Shelf) (Doing Shelf KeyState) Q A) (p : Key) (b i m n : ℕ) → i ≡ b % m → m ≡ n → IsFree d (place i n) p → IsKeyFor d b p
  key_for d p b i m n is all free = (place i n, free, sym (is ∙ ap (λ (k : ℕ). b % k) all))

  -- one lock and one key more
  snoc : (i n : ℕ) (ds : List (Slotted (Option Shelf) (Doing Shelf KeyState) Q A)) (ps : List Key) (d : Slotted (Option Shelf) (Doing Shelf KeyState) Q A) (p : Key) → AreKeysFrom i n ds ps → IsFree d (place (i + length ds) n) p → AreKeysFrom i n (ds ++ d ∷ []) (ps ++ p ∷ [])
  snoc i n [] [] d p h is = (moved d p (i + 0) i n (omega arith) is, tt)
  snoc i n [] (q ∷ ps) d p h is = absurd h
  snoc i n (e ∷ ds) [] d p h is = absurd h
  snoc i n (e ∷ ds) (q ∷ ps) d p h is = (h.0, snoc (i + 1) n ds ps d p h.1 (moved d p (i + suc (length ds)) (i + 1 + length ds) n (omega arith) is))

  pub locks_more : (n made : ℕ) (ds ds' : List (Slotted (Option Shelf) (Doing Shelf KeyState) Q A)) (ps ps' : List Key) (at : Place) (d : Slotted (Option Shelf) (Doing Shelf KeyState) Q A) (p : Key) → AreKeysFrom 0 n ds ps → length ds ≡ made → IsFree d at p → at ≡ place made n
      → ds' ≡ ds ++ d ∷ [] → ps' ≡ ps ++ p ∷ [] → AreKeysFrom 0 n ds' ps'
  locks_more n made ds ds' ps ps' at d p h count is there e f =
      let here : IsFree d (place made n) p = subst (λ (z : Place). IsFree d z p) there is in
      rw (e, f) (snoc 0 n ds ps d p h (moved d p made (0 + length ds) n (omega (arith, count)) here))

  pub locks_all : (n : ℕ) (ds : List (Slotted (Option Shelf) (Doing Shelf KeyState) Q A)) (ps : List Key) → AreKeysFrom 0 n ds ps → length ds ≡ n → AreKeys ds ps
  locks_all n ds ps h all = subst (λ (m : ℕ). AreKeysFrom 0 m ds ps) (sym all) h

  -- one key more, of the locks that are there
  grows : (i n : ℕ) (ds : List (Slotted (Option Shelf) (Doing Shelf KeyState) Q A)) (ps : List Key) (k : ℕ) (p : Key) → k < length ds → AreKeysFrom i n (take k ds) ps → ((d : Slotted (Option Shelf) (Doing Shelf KeyState) Q A) → d ≡ slice_index_or ds k d → IsFree d (place (i + k) n) p) → AreKeysFrom i n (take (suc k) ds) (ps ++ p ∷ [])
  grows i n [] ps k p lt h is = absurd (omega (arith, lt))
  grows i n (d ∷ ds) [] zero p lt h is = (moved d p (i + 0) i n (omega arith) (is d refl), tt)
  grows i n (d ∷ ds) (q ∷ ps) zero p lt h is = absurd h
  grows i n (d ∷ ds) [] (suc k) p lt h is = absurd h
  grows i n (d ∷ ds) (q ∷ ps) (suc k) p lt h is = (h.0, grows (i + 1) n ds ps k p (omega (arith, lt)) h.1 (λ e there. moved e p (i + suc k) (i + 1 + k) n (omega arith) (is e there)))

  pub keys_more : (ds : List (Slotted (Option Shelf) (Doing Shelf KeyState) Q A)) (ps ps' : List Key) (k : ℕ) (p : Key) → k < length ds → AreKeysFrom 0 (length ds) (take k ds) ps → IsKeyAt ds k p → ps' ≡ ps ++ p ∷ [] → AreKeysFrom 0 (length ds) (take (k + 1) ds) ps'
  keys_more ds ps ps' k p lt h is e = let on : k + 1 ≡ suc k = omega arith in rw (e, on) (grows 0 (length ds) ds ps k p lt h (λ d there. moved d p k (0 + k) (length ds) (omega arith) (is d there)))

  pub keys_all : (ds : List (Slotted (Option Shelf) (Doing Shelf KeyState) Q A)) (ps : List Key) (k : ℕ) → AreKeysFrom 0 (length ds) (take k ds) ps → length ds ≤ k → AreKeys ds ps
  keys_all ds ps k h le = subst (λ (z : List (Slotted (Option Shelf) (Doing Shelf KeyState) Q A)). AreKeysFrom 0 (length ds) z ps) (take_whole ds k le) h

  same_at : (ds : List (Slotted (Option Shelf) (Doing Shelf KeyState) Q A)) (i : ℕ) → i < length ds → (d e : Slotted (Option Shelf) (Doing Shelf KeyState) Q A) → d ≡ slice_index_or ds i d → e ≡ slice_index_or ds i e → d ≡ e
  same_at [] i lt d e there there' = absurd (omega (arith, lt))
  same_at (f ∷ ds) zero lt d e there there' = there ∙ sym there'
  same_at (f ∷ ds) (suc i) lt d e there there' = same_at ds i (omega (arith, lt)) d e there there'

  pub key_at : (ds : List (Slotted (Option Shelf) (Doing Shelf KeyState) Q A)) (i : ℕ) → i < length ds → (d : Slotted (Option Shelf) (Doing Shelf KeyState) Q A) (p : Key) → d ≡ slice_index_or ds i d → IsFree d (place i (length ds)) p → IsKeyAt ds i p
  key_at ds i lt d p there is e there' = subst (λ (z : Slotted (Option Shelf) (Doing Shelf KeyState) Q A). IsFree z (place i (length ds)) p) (same_at ds i lt d e there there') is
