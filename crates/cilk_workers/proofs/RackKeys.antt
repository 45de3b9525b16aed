-- Each move keeps the rule of a shelf's queue: `begins`, `opens`, `unlocks`, `locks`, `forks`. The queue is
-- empty while a key holds its shelf: `empty`, `no_room`.
use Rattle.std.proofs.Common.{◌≡◌, ◌+◌, ◌≤◌, ℕ, zero, suc, List, [], ◌∷◌, ◌++◌, length, set, inl, inr, refl, sym, ap, ◌∙◌, subst, arith, length-append}
use mathlib.Core.Option.{some, none}
use lib.ListN.{get_elem?}
use Rattle.std.specs.Prelude.{All}
use Rattle.std.proofs.lemmas.List.Elements.{All-cons, All-head, All-nil, All-push, All-set, All-tail}
use Rattle.crossbeam_queue.specs.Fifo.{Pushes, Pops, Forks, Learns, Held}
use Rattle.cilk_workers.specs.Rows.{RunValue}
use Rattle.cilk_replay.specs.Replays.{ReplayValue}
use Rattle.cilk_workers.specs.declared.lock.KeyState.{KeyState}
use Rattle.cilk_workers.specs.declared.lock.KeyState.TheVariants.{New, Holds, Free}
use Rattle.cilk_workers.specs.declared.shelf.Place.{Place}
use Rattle.cilk_workers.specs.declared.shelf.Shelf.{Shelf}
use Rattle.cilk_workers.specs.Locks.{HasOne, IsFreeAt, IsKeyOfPlace, IsPopped, IsShelf, IsShelfAt, MayPush, Shelved, copied, freed, held, holders, uses}
use Rattle.cilk_workers.specs.ShelfHistories.{IsOneStep}
use Rattle.cilk_workers.specs.Shelves.{IsEmptyShelf}
use Rattle.cilk_workers.proofs.ShelfHistories.{still_at}

-- ---- how many keys hold the shelf

holders_set : (vs : List KeyState) (port : ℕ) (v w : KeyState) → get_elem? vs port ≡ some v → holders (set vs port w) + held v ≡ holders vs + held w
holders_set [] port v w at = absurd (let z : none ≡ some v = at in cc z)
holders_set (u ∷ vs) zero v w at = let same : u ≡ v = (let z : some u ≡ some v = at in cc z) in let n = ap held same in omega (arith, n)
holders_set (u ∷ vs) (suc port) v w at = let h = holders_set vs port v w at in omega (arith, h)

holders_last : (vs : List KeyState) (v : KeyState) → holders (vs ++ v ∷ []) ≡ holders vs + held v
holders_last [] v = omega arith
holders_last (u ∷ vs) v = let h = holders_last vs v in omega (arith, h)

holds_at : (vs : List KeyState) (port : ℕ) (v : KeyState) → get_elem? vs port ≡ some v → held v ≤ holders vs
holds_at [] port v at = absurd (let z : none ≡ some v = at in cc z)
holds_at (u ∷ vs) zero v at = let same : u ≡ v = (let z : some u ≡ some v = at in cc z) in let n = ap held same in omega (arith, n)
holds_at (u ∷ vs) (suc port) v at = let h = holds_at vs port v at in omega (arith, h)

no_items : {X : Type 0} (items : List X) → length items ≡ 0 → items ≡ []
no_items [] is = refl
no_items (x ∷ items) is = absurd (omega (arith, is))

-- ---- the view of a key

view_at : (P : KeyState → Type 0) (vs : List KeyState) (port : ℕ) (v : KeyState) → get_elem? vs port ≡ some v → All P vs → P v
view_at P [] port v at all = absurd (let z : none ≡ some v = at in cc z)
view_at P (u ∷ vs) zero v at all = let same : u ≡ v = (let z : some u ≡ some v = at in cc z) in subst P same (All-head P u vs all)
view_at P (u ∷ vs) (suc port) v at all = view_at P vs port v at (All-tail P u vs all)

-- the one key of a new lock
only_new : (vs : List KeyState) (port : ℕ) (v : KeyState) → vs ≡ New ∷ [] → get_elem? vs port ≡ some v → New ≡ v
only_new vs port v only at = new_at port v (sym (ap (λ (us : List KeyState). get_elem? us port) only) ∙ at)
  where
    new_at : (port : ℕ) (v : KeyState) → get_elem? (New ∷ []) port ≡ some v → New ≡ v
    new_at zero v at = let z : some New ≡ some v = at in cc z
    new_at (suc port) v at = absurd (let z : none ≡ some v = at in cc z)

set_new : (vs : List KeyState) (port : ℕ) (w : KeyState) → vs ≡ New ∷ [] → get_elem? vs port ≡ some New → set vs port w ≡ w ∷ []
set_new vs port w only at = ap (λ (us : List KeyState). set us port w) only ∙ set_one port (sym (ap (λ (us : List KeyState). get_elem? us port) only) ∙ at)
  where
    set_one : (port : ℕ) → get_elem? (New ∷ []) port ≡ some New → set (New ∷ []) port w ≡ w ∷ []
    set_one zero at = refl
    set_one (suc port) at = absurd (let z : none ≡ some New = at in cc z)

-- ---- the moves
module _ (y : RunValue) (replay : ReplayValue → Type 0) where
  one_shelf : (at : Place) (x : Shelf) → IsShelfAt y replay at x → All (IsShelfAt y replay at) (x ∷ [])
  one_shelf at x is = All-cons (IsShelfAt y replay at) x [] is (All-nil (IsShelfAt y replay at))

  pub begins : Shelved y replay [] (New ∷ [])
  begins = inl (refl, refl)

  -- the first key brings an empty shelf
  opened : (x : Shelf) (items : List Shelf) (views : List KeyState) (port : ℕ) → IsShelf y replay x → items ≡ [] → views ≡ New ∷ [] → get_elem? views port ≡ some New
      → HasOne y replay x.place (items ++ x ∷ []) (set views port (freed New x))
  opened x items views port is none_there only at =
      let one_view : All (IsKeyOfPlace y replay x.place) (freed New x ∷ []) = All-cons (IsKeyOfPlace y replay x.place) (freed New x) [] refl (All-nil (IsKeyOfPlace y replay x.place)) in
      rw (none_there, set_new views port (freed New x) only at) (one_shelf x.place x (is, refl), one_view, refl)

  pub opens : (n port : ℕ) (v : KeyState) (x : Shelf) → v ≡ New → IsShelf y replay x → IsEmptyShelf x
      → Pushes (λ items views. Shelved y replay items views) n port v x (λ w. MayPush v x × (w ≡ freed v x))
  opens n port v x new is empty items views _ (inl h) at =
      (freed New x, inr (x.place, opened x items views port is h.0 h.1 (at ∙ ap some new)), (subst (λ (u : KeyState). MayPush u x) (sym new) empty, ap (λ u. freed u x) (sym new)))
  opens n port v x new is empty items views _ (inr (place, h)) at =
      absurd (subst (λ (u : KeyState). IsKeyOfPlace y replay place u) new (view_at (IsKeyOfPlace y replay place) views port v at h.1))

  -- a key puts back the shelf that it holds, after one step
  put_back : (place : Place) (s x : Shelf) (k : ℕ) (items : List Shelf) (views : List KeyState) (port : ℕ) → IsOneStep s x → HasOne y replay place items views → get_elem? views port ≡ some (Holds s k)
      → HasOne y replay place (items ++ x ∷ []) (set views port (Free s x (suc k)))
  put_back place s x k items views port step h at =
      let count = holders_set views port (Holds s k) (Free s x (suc k)) at in
      let long = length-append items (x ∷ []) in
      let all = h.2 in
      let back : IsShelfAt y replay place x = still_at y replay place s x (view_at (IsKeyOfPlace y replay place) views port (Holds s k) at h.1) step in (
        All-push (IsShelfAt y replay place) items x h.0 back,
        All-set (IsKeyOfPlace y replay place) views port (Free s x (suc k)) back.1 h.1,
        omega (arith, count, all, long),
      )

  pub unlocks : (n port : ℕ) (v : KeyState) (s x : Shelf) (k : ℕ) → v ≡ Holds s k → IsOneStep s x
      → Pushes (λ items views. Shelved y replay items views) n port v x (λ w. MayPush v x × (w ≡ freed v x))
  unlocks n port v s x k holds step items views _ (inl h) at =
      absurd (let z : New ≡ Holds s k = only_new views port v h.1 at ∙ holds in cc z)
  unlocks n port v s x k holds step items views _ (inr (place, h)) at = (
    Free s x (suc k),
    inr (place, put_back place s x k items views port step h (at ∙ ap some holds)),
    (subst (λ (u : KeyState). MayPush u x) (sym holds) step, ap (λ u. freed u x) (sym holds)),
  )

  -- no items are there while the key holds the shelf
  pub empty : (port : ℕ) (v : KeyState) → Learns (λ items views. Shelved y replay items views) port v (λ items. held v ≡ 1 → items ≡ [])
  empty port v items views (inl h) at holds = h.0
  empty port v items views (inr (place, h)) at holds =
      let some_hold = holds_at views port v at in
      let all = h.2 in
      no_items items (omega (arith, some_hold, holds, all))

  -- a free key is of the one place
  same_place : (place free : Place) (v : KeyState) → IsKeyOfPlace y replay place v → IsFreeAt free v → place ≡ free
  same_place place free New its there = absurd there
  same_place place free (Holds s n) its there = absurd there
  same_place place free (Free s back n) its there = sym its ∙ there

  -- a key takes the shelf out
  taken_out : (place : Place) (v : KeyState) (x : Shelf) (items : List Shelf) (views : List KeyState) (port : ℕ) → HasOne y replay place (x ∷ items) views → get_elem? views port ≡ some v
      → HasOne y replay place items (set views port (Holds x (uses v))) × IsPopped y replay v x
  taken_out place v x items views port h at =
      let count = holders_set views port v (Holds x (uses v)) at in
      let less = holds_at views port v at in
      let all = h.2 in
      let is : IsShelfAt y replay place x = All-head (IsShelfAt y replay place) x items h.0 in
      let its = view_at (IsKeyOfPlace y replay place) views port v at h.1 in (
        (All-tail (IsShelfAt y replay place) x items h.0, All-set (IsKeyOfPlace y replay place) views port (Holds x (uses v)) is h.1, omega (arith, count, less, all)),
        (is.0, λ free there. is.1 ∙ same_place place free v its there),
      )

  pub locks : (port : ℕ) (v : KeyState) → Pops (λ items views. Shelved y replay items views) port v (λ x w. IsPopped y replay v x × (w ≡ Holds x (uses v)))
  locks port v x items views (inl h) at = absurd (let z : x ∷ items ≡ [] = h.0 in cc z)
  locks port v x items views (inr (place, h)) at =
      let out = taken_out place v x items views port h at in
      (Holds x (uses v), inr (place, out.0), (out.1, refl))

  pub forks : (port : ℕ) (v : KeyState) (free : Place) → IsFreeAt free v → Forks (λ items views. Shelved y replay items views) port v (copied v) (copied v)
  forks port New free is items views h at = absurd is
  forks port (Holds s n) free is items views h at = absurd is
  forks port (Free s back n) free is items views (inl h) at = absurd (let z : New ≡ Free s back n = only_new views port (Free s back n) h.1 at in cc z)
  forks port (Free s back n) free is items views (inr (place, h)) at =
      let v : KeyState = Free s back n in
      let count = holders_set views port v (copied v) at in
      let last = holders_last (set views port (copied v)) (copied v) in
      let all = h.2 in
      let its = view_at (IsKeyOfPlace y replay place) views port v at h.1 in
      let keys = All-push (IsKeyOfPlace y replay place) (set views port (copied v)) (copied v) (All-set (IsKeyOfPlace y replay place) views port (copied v) its h.1) its in
      inr (place, (h.0, keys, omega (arith, count, last, all)))

-- so the queue isn't full
pub no_room : (v : KeyState) (n : ℕ) → n ≡ 1 → held v ≡ 1 → Held n (λ (items : List Shelf). held v ≡ 1 → items ≡ []) → ⊥
no_room v n one holds (items, long, fact) = let none_there = ap (λ (xs : List Shelf). length xs) (fact holds) in omega (arith, one, long, none_there)
