-- The free machine makes its steps: frames that don't wait continue, continuations are stolen, and
-- faults stop the run.
use Rattle.std.specs.Prelude.{◌≡◌, suc, ◌+◌, ◌≤◌, ◌<◌, ℤ, true, false, List, [], ◌∷◌, ◌++◌, Some, None}
use Rattle.cilk_types.specs.declared.fault.Fault.{Fault}
use Rattle.cilk_types.specs.declared.invocation.Invocation.{Invocation}
use Rattle.cilk_types.specs.declared.invocation.Invocation.TheVariants.{Spawn}
use Rattle.cilk_determinacy.specs.Runs.{Name, Cell, Instance, Ask, Invoke, Sync, Fail, Event, Syncs, Ends, Deed, Does, Invokes, ask_of}
use Rattle.cilk_determinacy.specs.Costs.{Costs, Total, TickTotal, cost}
use Rattle.cilk_monoid.specs.Laws.{MonoidStructure}
use Rattle.cilk_determinacy.specs.Machine.{Frame, State, started, strand_of, begun, IsAsking, Makes, Steals, Stops, Step, IsOpening}

-- the name of the child that frame n starts after these deeds
abbrev pub child_after : {W : Type 0} → Name → List (Deed W) → Name
child_after n before = n ++ suc (started before) ∷ []

-- the deed answers the ask
abbrev pub Answers : {W : Type 0} → Deed W → Ask W → Type 0
Answers (Does e) a = a ≡ ask_of e
Answers (Invokes k w) a = a ≡ Invoke k w

-- none of the deeds is a sync
abbrev pub HasNoSync : {W : Type 0} → List (Deed W) → Type 0
HasNoSync {W = W} deeds = (before after : List (Deed W)) → deeds ≡ before ++ Does Syncs ∷ after → ⊥

module _ (W V : Type 0) where
  -- frame m exists, and its end is among its deeds
  pub record HasEnded (s : State W V) (m : Name) : Type 0 where
    pub frame : Frame W
    pub before : List (Deed W)
    pub result : ℤ
    pub retired : List Instance
    pub after : List (Deed W)
    pub here : s.frames m ≡ Some frame
    pub ends : frame.deeds ≡ before ++ Does (Ends result retired) ∷ after

  -- Frame n, with these deeds, doesn't wait after the last of them. It has done nothing yet, or its
  -- last deed is an event, starts a child that has ended, or is a spawn whose continuation was
  -- stolen.
  pub data GoesOn (s : State W V) (n : Name) (deeds : List (Deed W)) : Type 0 where
    AtBegin : deeds ≡ [] → GoesOn s n deeds
    AfterEvent : (before : List (Deed W)) → (event : Event) → deeds ≡ before ++ Does event ∷ [] → GoesOn s n deeds
    AfterChild : (before : List (Deed W)) → (kind : Invocation) → (what : W) → deeds ≡ before ++ Invokes kind what ∷ [] → HasEnded s (child_after n before) → GoesOn s n deeds
    AfterSteal : (before : List (Deed W)) → (what : W) → deeds ≡ before ++ Invokes Spawn what ∷ [] → s.stolen (child_after n before) ≡ true → GoesOn s n deeds

  -- each child that frame n spawned since its last sync has ended
  abbrev pub BlockHasEnded : State W V → Name → List (Deed W) → Type 0
  BlockHasEnded s n deeds = (before after : List (Deed W)) (what : W) → deeds ≡ before ++ Invokes Spawn what ∷ after → HasNoSync after → HasEnded s (child_after n before)

module _ (W V : Type 0) (M : Instance → MonoidStructure V) (Next : W → List (Deed W) → Ask W → Type 0) (C : Costs W) where
  -- frame n exists, doesn't wait, and makes this ask next
  pub record MayAsk (s : State W V) (n : Name) (frame : Frame W) (ask : Ask W) : Type 0 where
    pub here : s.frames n ≡ Some frame
    pub next : Next frame.what frame.deeds ask
    pub goes_on : GoesOn W V s n frame.deeds
    pub block : ask ≡ Sync → BlockHasEnded W V s n frame.deeds

  -- a step exists by which frame n makes one more deed that answers this ask; a child that it
  -- starts then exists
  pub record HasNext (s : State W V) (n : Name) (frame : Frame W) (ask : Ask W) : Type 0 where
    pub after : State W V
    pub step : Step W V M Next C s n after
    pub makes : Makes W V M Next C s n after
    pub deed : Deed W
    pub answers : Answers deed ask
    pub longer : after.frames n ≡ Some (record frame { deeds = frame.deeds ++ deed ∷ [] })
    pub child : (k : Invocation) (w : W) → ask ≡ Invoke k w → after.frames (child_after n frame.deeds) ≡ Some (begun w)

  -- a step exists by which frame n stops the run with this fault
  pub record HasStop (s : State W V) (n : Name) (frame : Frame W) (fault : Fault) : Type 0 where
    pub after : State W V
    pub step : Step W V M Next C s n after
    pub stops : Stops W V M Next C s n after
    pub stopped : after.stopped ≡ Some (record { frame = n; strand = strand_of frame.deeds; fault = fault })

  -- a step exists that steals frame n's continuation beside this child
  pub record HasThief (s : State W V) (n child : Name) : Type 0 where
    pub after : State W V
    pub step : Step W V M Next C s n after
    pub steals : Steals W V M Next C s n after
    pub taken : after.stolen child ≡ true

  pub record HasProgress : Type 0 where
    -- an opening state exists
    pub opens : (w : W) (opening : Cell → ℤ) → (s : State W V) × IsOpening W V M Next C w opening s
    -- a frame that doesn't wait makes its next event, if that is no fault and exceeds no limit
    pub goes_on : (s : State W V) (n : Name) (frame : Frame W) (ask : Ask W) → s.stopped ≡ None → MayAsk s n frame ask → ((f : Fault) → ask ≡ Fail f → ⊥) → ((total : Total) → s.totals total + cost C total frame.what frame.deeds ask ≤ C.limit total) → HasNext s n frame ask
    -- a fault stops the run, if the ticks up to it are within their limit
    pub fails : (s : State W V) (n : Name) (frame : Frame W) (f : Fault) → s.stopped ≡ None → MayAsk s n frame (Fail f) → s.totals TickTotal + cost C TickTotal frame.what frame.deeds (Fail f) ≤ C.limit TickTotal → HasStop s n frame f
    -- and so does an exceeded limit
    pub exceeds : (s : State W V) (n : Name) (frame : Frame W) (ask : Ask W) (total : Total) → s.stopped ≡ None → MayAsk s n frame ask → C.limit total < s.totals total + cost C total frame.what frame.deeds ask → (f : Fault) × HasStop s n frame f
    -- a continuation that was neither resumed nor stolen can be stolen, whether the child has ended
    -- or not
    pub steals : (s : State W V) (n : Name) (frame : Frame W) (before : List (Deed W)) (what : W) → s.stopped ≡ None → s.frames n ≡ Some frame → frame.deeds ≡ before ++ Invokes Spawn what ∷ [] → s.stolen (child_after n before) ≡ false → HasThief s n (child_after n before)
    -- a frame waits in no other case
    pub exact : (s : State W V) (n : Name) (frame : Frame W) (ask : Ask W) → IsAsking W V M Next C s n frame ask → MayAsk s n frame ask
