-- The rule of a shelf's queue, which makes it a lock: the shelf is in it, or one worker holds it.
use Rattle.std.specs.Prelude.{◌≡◌, ◌+◌, ◌⊎◌, ℕ, suc, List, [], ◌∷◌, All, length}
use Rattle.cilk_workers.specs.Rows.{RunValue}
use Rattle.cilk_workers.specs.ShelfHistories.{HasHistory, IsOneStep}
use Rattle.cilk_workers.specs.Shelves.{IsEmptyShelf, ShelfValue}
use Rattle.cilk_replay.specs.Replays.{ReplayValue}
use Rattle.cilk_workers.specs.declared.lock.KeyState.{KeyState}
use Rattle.cilk_workers.specs.declared.lock.KeyState.TheVariants.{New, Holds, Free}
use Rattle.cilk_workers.specs.declared.shelf.Place.{Place}
use Rattle.cilk_workers.specs.declared.shelf.Shelf.{Shelf}

-- the shelf belongs to the run, and came from an empty one by steals and arrivals alone, at its own blocks
abbrev pub IsShelf : RunValue → (ReplayValue → Type 0) → ShelfValue → Type 0
IsShelf y replay s = (s.of ≡ y) × replay s.replay × HasHistory s

-- and it is at this place
abbrev pub IsShelfAt : RunValue → (ReplayValue → Type 0) → Place → ShelfValue → Type 0
IsShelfAt y replay at s = IsShelf y replay s × (s.place ≡ at)

-- the key is free: it put back a shelf of this place
abbrev pub IsFreeAt : Place → KeyState → Type 0
IsFreeAt at New = ⊥
IsFreeAt at (Holds s n) = ⊥
IsFreeAt at (Free s back n) = back.place ≡ at

-- a key in this state pops a shelf of the run, and a free key that of its place
abbrev pub IsPopped : RunValue → (ReplayValue → Type 0) → KeyState → ShelfValue → Type 0
IsPopped y replay v s = IsShelf y replay s × ((at : Place) → IsFreeAt at v → s.place ≡ at)

-- a key in this state may push the shelf: it is new and the shelf is empty, or it holds a shelf from which
-- one step leads to the pushed one
abbrev pub MayPush : KeyState → ShelfValue → Type 0
MayPush New s = IsEmptyShelf s
MayPush (Holds before n) s = IsOneStep before s
MayPush (Free before back n) s = ⊥

-- how often a key was used: a shelf was put back with it, or another key was made of it
abbrev pub uses : KeyState → ℕ
uses New = 0
uses (Holds s n) = n
uses (Free s back n) = n

-- a key that has put back a shelf
abbrev pub freed : KeyState → Shelf → KeyState
freed New back = Free back back 1
freed (Holds s n) back = Free s back (suc n)
freed (Free s _ n) back = Free s back (suc n)

-- a key, after another was made of it
abbrev pub copied : KeyState → KeyState
copied New = New
copied (Holds s n) = Holds s (suc n)
copied (Free s back n) = Free s back (suc n)

-- how many shelves a key holds, or is to bring
abbrev pub held : KeyState → ℕ
held New = 1
held (Holds s n) = 1
held (Free s back n) = 0

abbrev pub holders : List KeyState → ℕ
holders [] = 0
holders (v ∷ vs) = held v + holders vs

-- the key holds a shelf of this place, or is free and of this place
abbrev pub IsKeyOfPlace : RunValue → (ReplayValue → Type 0) → Place → KeyState → Type 0
IsKeyOfPlace y replay at New = ⊥
IsKeyOfPlace y replay at (Holds s n) = IsShelfAt y replay at s
IsKeyOfPlace y replay at (Free s back n) = back.place ≡ at

-- there is one shelf of this place: in the queue, or with one key
abbrev pub HasOne : RunValue → (ReplayValue → Type 0) → Place → List Shelf → List KeyState → Type 0
HasOne y replay at items keys = All (IsShelfAt y replay at) items × All (IsKeyOfPlace y replay at) keys × (length items + holders keys ≡ 1)

-- the first key hasn't pushed a shelf yet, or there is one shelf
abbrev pub Shelved : RunValue → (ReplayValue → Type 0) → List Shelf → List KeyState → Type 0
Shelved y replay items keys = ((items ≡ []) × (keys ≡ New ∷ [])) ⊎ ((at : Place) × HasOne y replay at items keys)
