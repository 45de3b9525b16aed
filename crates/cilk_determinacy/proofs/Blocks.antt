-- Races by blocks, as the theorem's proof uses that a run has none: the events of a spawned child
-- against those of the rest of its block.
--
-- - `HasInBlockWith`: some event before the frame's next sync;
-- - `IsAccess`, `IsWrite`, `Apart`, `RaceFree`: determinacy races (Feng and Leiserson 1997);
-- - `IsTouch`, `ViewApart`, `ViewFree`: the view that a thief finds at a stolen continuation (Lee
--   and Schardl 2015);
-- - `IsResume`, `IsResumed`: the places of resumes;
-- - `ReadRule`, `IsReadApart`: an instance read before a continuation isn't read in it.
use Rattle.std.proofs.Common.{◌≡◌, Bool, true, false, ◌⊎◌}
use Rattle.cilk_types.specs.declared.invocation.Invocation.{Invocation}
use Rattle.cilk_types.specs.declared.invocation.Invocation.TheVariants.{Call, Spawn}
use Rattle.cilk_monoid.specs.Laws.{MonoidStructure}
use Rattle.cilk_determinacy.specs.Runs.{Cell, Instance, has_instance, Event, Reads, Writes, Syncs, Ends, Passes, Begins, Resumes, Creates, Updates, Sets, Values, Prints, Run, stop, act, child}
use Rattle.cilk_determinacy.specs.Monoids.{on_view}
use Rattle.cilk_determinacy.specs.Views.{HasEventWith, IsMarkRead, IsReducerRead, view_after}

-- a read or a write of the cell
abbrev pub IsAccess : Event → Cell → Type 0
IsAccess (Reads d v) c = d ≡ c
IsAccess (Writes d v) c = d ≡ c
IsAccess Syncs c = ⊥
IsAccess (Ends val gone) c = ⊥
IsAccess (Passes m) c = ⊥

-- a write of the cell
abbrev pub IsWrite : Event → Cell → Type 0
IsWrite (Reads d v) c = ⊥
IsWrite (Writes d v) c = d ≡ c
IsWrite Syncs c = ⊥
IsWrite (Ends val gone) c = ⊥
IsWrite (Passes m) c = ⊥

-- the event is a sync
abbrev pub IsSync : Event → Type 0
IsSync (Reads d v) = ⊥
IsSync (Writes d v) = ⊥
IsSync Syncs = Unit {0}
IsSync (Ends val gone) = ⊥
IsSync (Passes m) = ⊥

-- the same before the frame's next sync
abbrev pub HasInBlockWith : {W : Type 0} → (Event → Type 0) → Run W → Type 0
HasInBlockWith P stop = ⊥
HasInBlockWith P (act e r) = P e ⊎ (¬ (IsSync e) × HasInBlockWith P r)
HasInBlockWith P (child k w u r) = HasEventWith P u ⊎ HasInBlockWith P r

-- A spawned child runs in parallel with the rest of its block, and with nothing else of its parent.
-- They have no race if they don't access one cell with a write.
abbrev pub Apart : {W : Type 0} → Run W → Run W → Type 0
Apart u r =
    (c : Cell)
    → (HasEventWith (λ e. IsAccess e c) u → HasInBlockWith (λ e. IsWrite e c) r → ⊥)
    × (HasEventWith (λ e. IsWrite e c) u → HasInBlockWith (λ e. IsAccess e c) r → ⊥)

-- a called child runs in parallel with nothing of its parent
abbrev pub ApartIf : {W : Type 0} → Invocation → Run W → Run W → Type 0
ApartIf Call u r = Unit {0}
ApartIf Spawn u r = Apart u r

-- no two parallel parts of the run race
abbrev pub RaceFree : {W : Type 0} → Run W → Type 0
RaceFree stop = Unit {0}
RaceFree (act e r) = RaceFree r
RaceFree (child k w u r) = ApartIf k u r × RaceFree u × RaceFree r

-- a reducer-read, or the end that retires the instance
abbrev pub IsTouch : Instance → Event → Type 0
IsTouch i (Reads c v) = ⊥
IsTouch i (Writes c v) = ⊥
IsTouch i Syncs = ⊥
IsTouch i (Ends val gone) = has_instance gone i ≡ true
IsTouch i (Passes m) = IsMarkRead i m

-- At a stolen continuation the serial view is the unit, or the rest of the block doesn't read or
-- retire it.
abbrev pub ViewApart : {W V : Type 0} → MonoidStructure V → Instance → Invocation → V → Run W → Type 0
ViewApart M i Call v r = Unit {0}
ViewApart M i Spawn v r = (v ≡ M.unit) ⊎ (¬ (HasInBlockWith (IsTouch i) r))

-- so it is at each continuation of the run, whose view begins as x
abbrev pub ViewFree : {W V : Type 0} → MonoidStructure V → Instance → Run W → V → Type 0
ViewFree M i stop x = Unit {0}
ViewFree M i (act e r) x = ViewFree M i r (on_view M i e x)
ViewFree M i (child k w u r) x = ViewApart M i k (view_after M i u x) r × ViewFree M i u x × ViewFree M i r (view_after M i u x)

-- a resume comes right after each child and nowhere else
abbrev pub IsResume : Event → Type 0
IsResume (Reads c v) = ⊥
IsResume (Writes c v) = ⊥
IsResume Syncs = ⊥
IsResume (Ends val gone) = ⊥
IsResume (Passes Begins) = ⊥
IsResume (Passes Resumes) = Unit {0}
IsResume (Passes (Updates i x)) = ⊥
IsResume (Passes (Creates i)) = ⊥
IsResume (Passes (Sets i x)) = ⊥
IsResume (Passes (Values i n)) = ⊥
IsResume (Passes (Prints x)) = ⊥

-- resumes are in their places in the run; true: one is due at its start
abbrev pub IsResumed : {W : Type 0} → Bool → Run W → Type 0
IsResumed true stop = ⊥
IsResumed true (act e r) = IsResume e × IsResumed false r
IsResumed true (child k w u r) = ⊥
IsResumed false stop = Unit {0}
IsResumed false (act e r) = (¬ (IsResume e)) × IsResumed false r
IsResumed false (child k w u r) = IsResumed false u × IsResumed true r

-- beside a spawned child nothing is read that was read before
abbrev pub ReadRule : {W : Type 0} → Instance → Invocation → Type 0 → Run W → Type 0
ReadRule i Call seen r = Unit {0}
ReadRule i Spawn seen r = seen → HasInBlockWith (IsReducerRead i) r → ⊥

-- what was read before a continuation isn't read in it until the sync
abbrev pub IsReadApart : {W : Type 0} → Instance → Run W → Type 0 → Type 0
IsReadApart i stop seen = Unit {0}
IsReadApart i (act e r) seen = IsReadApart i r (seen ⊎ IsReducerRead i e)
IsReadApart i (child b w u r) seen =
    ReadRule i b (seen ⊎ HasEventWith (IsReducerRead i) u) r × IsReadApart i u seen × IsReadApart i r (seen ⊎ HasEventWith (IsReducerRead i) u)
