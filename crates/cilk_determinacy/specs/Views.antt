-- View-read races of a run (Lee and Schardl 2015), and the serial run's views.
use Rattle.std.specs.Prelude.{◌≡◌, true, ◌⊎◌}
use Rattle.cilk_determinacy.specs.Runs.{Instance, Output, has_instance, Event, Reads, Writes, Syncs, Ends, Passes, Granted, Begins, Resumes, Creates, Updates, Sets, Values, Prints, Run, stop, act, child}
use Rattle.cilk_monoid.specs.Laws.{MonoidStructure}
use Rattle.cilk_determinacy.specs.Monoids.{numbers_of, on_view}

-- instance i's view after the run, given its view before
abbrev pub view_after : {W V : Type 0} → MonoidStructure V → Instance → Run W → V → V
view_after M i stop x = x
view_after M i (act e r) x = view_after M i r (on_view M i e x)
view_after M i (child k w u r) x = view_after M i r (view_after M i u x)

-- a value that is read is the number of the view
abbrev pub IsValueRight : {V : Type 0} → (Instance → MonoidStructure V) → Granted → (Instance → V) → Type 0
IsValueRight M Begins views = Unit {0}
IsValueRight M Resumes views = Unit {0}
IsValueRight M (Updates i x) views = Unit {0}
IsValueRight M (Creates i) views = Unit {0}
IsValueRight M (Sets i x) views = Unit {0}
IsValueRight M (Values i n) views = n ≡ numbers_of M views i
IsValueRight M (Prints x) views = Unit {0}

-- the same for each event
abbrev pub IsViewRight : {V : Type 0} → (Instance → MonoidStructure V) → Event → (Instance → V) → Type 0
IsViewRight M (Reads c v) views = Unit {0}
IsViewRight M (Writes c v) views = Unit {0}
IsViewRight M Syncs views = Unit {0}
IsViewRight M (Ends val gone) views = Unit {0}
IsViewRight M (Passes m) views = IsValueRight M m views

-- each value that is read is the number of the serial view
abbrev pub IsSerialViews : {W V : Type 0} → (Instance → MonoidStructure V) → Run W → (Instance → V) → Type 0
IsSerialViews M stop views = Unit {0}
IsSerialViews M (act e r) views = IsViewRight M e views × IsSerialViews M r (λ i. on_view (M i) i e (views i))
IsSerialViews M (child k w u r) views = IsSerialViews M u views × IsSerialViews M r (λ i. view_after (M i) i u (views i))

-- a reducer-read of instance i: a create, a set, a value
abbrev pub IsMarkRead : Instance → Granted → Type 0
IsMarkRead i Begins = ⊥
IsMarkRead i Resumes = ⊥
IsMarkRead i (Updates j x) = ⊥
IsMarkRead i (Creates j) = j ≡ i
IsMarkRead i (Sets j x) = j ≡ i
IsMarkRead i (Values j n) = j ≡ i
IsMarkRead i (Prints x) = ⊥

-- the same for events
abbrev pub IsReducerRead : Instance → Event → Type 0
IsReducerRead i (Reads c v) = ⊥
IsReducerRead i (Writes c v) = ⊥
IsReducerRead i Syncs = ⊥
IsReducerRead i (Ends val gone) = ⊥
IsReducerRead i (Passes m) = IsMarkRead i m

-- the creation of instance i
abbrev pub IsMarkCreate : Instance → Granted → Type 0
IsMarkCreate i Begins = ⊥
IsMarkCreate i Resumes = ⊥
IsMarkCreate i (Creates j) = j ≡ i
IsMarkCreate i (Updates j x) = ⊥
IsMarkCreate i (Sets j x) = ⊥
IsMarkCreate i (Values j n) = ⊥
IsMarkCreate i (Prints x) = ⊥

-- the same for events
abbrev pub IsCreate : Instance → Event → Type 0
IsCreate i (Reads c v) = ⊥
IsCreate i (Writes c v) = ⊥
IsCreate i Syncs = ⊥
IsCreate i (Ends val gone) = ⊥
IsCreate i (Passes m) = IsMarkCreate i m

-- the end that retires instance i
abbrev pub IsRetire : Instance → Event → Type 0
IsRetire i (Reads c v) = ⊥
IsRetire i (Writes c v) = ⊥
IsRetire i Syncs = ⊥
IsRetire i (Ends val gone) = has_instance gone i ≡ true
IsRetire i (Passes m) = ⊥

-- a frame's end retires only what that frame created; `mine` says that it has created the instance
abbrev pub IsRetiredAtHome : {W : Type 0} → Instance → Run W → Type 0 → Type 0
IsRetiredAtHome i stop mine = Unit {0}
IsRetiredAtHome i (act e r) mine = (IsRetire i e → mine) × IsRetiredAtHome i r (mine ⊎ IsCreate i e)
IsRetiredAtHome i (child k w u r) mine = IsRetiredAtHome i u ⊥ × IsRetiredAtHome i r mine

-- an update of instance i; a print updates the output
abbrev pub IsMarkUpdate : Instance → Granted → Type 0
IsMarkUpdate i Begins = ⊥
IsMarkUpdate i Resumes = ⊥
IsMarkUpdate i (Updates j x) = j ≡ i
IsMarkUpdate i (Creates j) = ⊥
IsMarkUpdate i (Sets j x) = ⊥
IsMarkUpdate i (Values j n) = ⊥
IsMarkUpdate i (Prints x) = Output ≡ i

-- the same for events
abbrev pub IsUpdate : Instance → Event → Type 0
IsUpdate i (Reads c v) = ⊥
IsUpdate i (Writes c v) = ⊥
IsUpdate i Syncs = ⊥
IsUpdate i (Ends val gone) = ⊥
IsUpdate i (Passes m) = IsMarkUpdate i m

-- some event of the run, or of a frame in it, has P
abbrev pub HasEventWith : {W : Type 0} → (Event → Type 0) → Run W → Type 0
HasEventWith P stop = ⊥
HasEventWith P (act e r) = P e ⊎ HasEventWith P r
HasEventWith P (child k w u r) = HasEventWith P u ⊎ HasEventWith P r

-- each update comes after a reducer-read, the creation; `seen` says that there was one before the
-- run
abbrev pub IsCreatedFirst : {W : Type 0} → Instance → Run W → Type 0 → Type 0
IsCreatedFirst i stop seen = Unit {0}
IsCreatedFirst i (act e r) seen = (IsUpdate i e → seen) × IsCreatedFirst i r (seen ⊎ IsReducerRead i e)
IsCreatedFirst i (child b w u r) seen = IsCreatedFirst i u seen × IsCreatedFirst i r (seen ⊎ HasEventWith (IsReducerRead i) u)

-- the instance is created before its first update, or, as the output, never read
abbrev pub IsCreated : {W : Type 0} → Instance → Run W → Type 0
IsCreated i t = IsCreatedFirst i t ⊥ ⊎ (¬ (HasEventWith (IsReducerRead i) t))
