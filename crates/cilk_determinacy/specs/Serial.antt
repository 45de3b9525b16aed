-- The serial run of a program.
use Rattle.std.specs.Prelude.{◌≡◌, ℤ, List, [], ◌∷◌, ◌++◌, ℕ, suc, cond, nat_eq, Option, Some, None}
use Rattle.cilk_types.specs.declared.invocation.Invocation.{Invocation}
use Rattle.cilk_types.specs.declared.invocation.Invocation.TheVariants.{Call, Spawn}
use Rattle.cilk_determinacy.specs.Runs.{Cell, Ask, Invoke, Event, Reads, Writes, Syncs, Ends, Passes, Deed, Does, Invokes, Run, stop, act, child, ask_of, Name}
use Rattle.cilk_determinacy.specs.Machine.{put}

-- the frame's own deeds in the run
abbrev pub own_deeds : {W : Type 0} → Run W → List (Deed W)
own_deeds stop = []
own_deeds (act e r) = Does e ∷ own_deeds r
own_deeds (child k w u r) = Invokes k w ∷ own_deeds r

-- the run of the child with ordinal j, if the next child is child k
abbrev pub child_at : {W : Type 0} → Run W → ℕ → ℕ → Option (Run W)
child_at stop k j = None
child_at (act e r) k j = child_at r k j
child_at (child b w u r) k j = cond (nat_eq k j) (Some u) (child_at r (suc k) j)

-- the run of the frame of this name
abbrev pub run_in : {W : Type 0} → Option (Run W) → Name → Option (Run W)
run_in None n = None
run_in (Some t) [] = Some t
run_in (Some t) (j ∷ n) = run_in (child_at t 1 j) n

-- a cell's value after the run, given its value before
abbrev pub value_after : {W : Type 0} → Run W → Cell → ℤ → ℤ
value_after stop c x = x
value_after (act e r) c x = value_after r c (put e c x)
value_after (child k w u r) c x = value_after r c (value_after u c x)

-- a read's answer is the cell's value
abbrev pub IsReadRight : Event → (Cell → ℤ) → Type 0
IsReadRight (Reads c v) memory = v ≡ memory c
IsReadRight (Writes c v) memory = Unit {0}
IsReadRight Syncs memory = Unit {0}
IsReadRight (Ends val gone) memory = Unit {0}
IsReadRight (Passes m) memory = Unit {0}

-- each read of the run gives the value of the last write, or that of the memory before the run
abbrev pub IsSerial : {W : Type 0} → Run W → (Cell → ℤ) → Type 0
IsSerial stop memory = Unit {0}
IsSerial (act e r) memory = IsReadRight e memory × IsSerial r (λ c. put e c (memory c))
IsSerial (child k w u r) memory = IsSerial u memory × IsSerial r (λ c. value_after u c (memory c))

-- the frame has a sync later
abbrev pub SyncAhead : {W : Type 0} → Run W → Type 0
SyncAhead stop = ⊥
SyncAhead (act (Reads c v) r) = SyncAhead r
SyncAhead (act (Writes c v) r) = SyncAhead r
SyncAhead (act Syncs r) = Unit {0}
SyncAhead (act (Ends val gone) r) = SyncAhead r
SyncAhead (act (Passes m) r) = SyncAhead r
SyncAhead (child k w u r) = SyncAhead r

-- the frame continues
abbrev pub GoesOn : {W : Type 0} → Run W → Type 0
GoesOn stop = ⊥
GoesOn (act e r) = Unit {0}
GoesOn (child k w u r) = Unit {0}

-- what must follow a call or a spawn
abbrev pub ComesAfter : {W : Type 0} → Invocation → Run W → Type 0
ComesAfter Call r = GoesOn r
ComesAfter Spawn r = SyncAhead r

-- the end is last, and each call is followed by an event and each spawn by a sync
abbrev pub IsClosed : {W : Type 0} → Run W → Type 0
IsClosed stop = Unit {0}
IsClosed (act (Reads c v) r) = IsClosed r
IsClosed (act (Writes c v) r) = IsClosed r
IsClosed (act Syncs r) = IsClosed r
IsClosed (act (Ends val gone) r) = r ≡ stop
IsClosed (act (Passes m) r) = IsClosed r
IsClosed (child k w u r) = ComesAfter k r × IsClosed u × IsClosed r

module _ (W : Type 0) (Next : W → List (Deed W) → Ask W → Type 0) where
  -- each frame of the run makes the asks of its behaviour, until there is none
  abbrev pub Behaves : W → List (Deed W) → Run W → Type 0
  Behaves w past stop = (a : Ask W) → Next w past a → ⊥
  Behaves w past (act e r) = Next w past (ask_of e) × Behaves w (past ++ Does e ∷ []) r
  Behaves w past (child k v u r) = Next w past (Invoke k v) × Behaves v [] u × Behaves w (past ++ Invokes k v ∷ []) r
