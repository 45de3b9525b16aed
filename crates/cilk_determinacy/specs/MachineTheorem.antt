-- The theorem: a program whose serial run has no race is determinate.
use Rattle.std.specs.Prelude.{◌≡◌, ℕ, ◌+◌, ◌≤◌, ◌<◌, ℤ, List, [], Option, Some}
use Rattle.cilk_types.specs.declared.event.Event as numbers
use Rattle.cilk_types.specs.declared.event.Instance as numbered
use Rattle.cilk_peers.specs.RaceFree.{IsRaceFree}
use Rattle.cilk_determinacy.specs.Runs.{Name, Cell, Instance, Ask, Deed, Run}
use Rattle.cilk_determinacy.specs.Machine.{Frame, State, deeds_at, HasEnd, IsAsking, Step, Steps, IsOpening}
use Rattle.cilk_determinacy.specs.Costs.{Costs, Total, EventTotal, cost, whole}
use Rattle.cilk_monoid.specs.Laws.{MonoidStructure}
use Rattle.cilk_determinacy.specs.Monoids.{unit_of}
use Rattle.cilk_determinacy.specs.Views.{view_after, IsSerialViews, IsCreated, IsRetiredAtHome}
use Rattle.cilk_determinacy.specs.Traces.{trace, begin_due, IsFramed, AreWritten}
use Rattle.cilk_determinacy.specs.Serial.{own_deeds, value_after, IsSerial, IsClosed, Behaves}
use Rattle.cilk_determinacy.specs.Cuts.{BeginsSerially, times, spawned, below, IsFull, IsConsistent}

module _ (W V : Type 0) (M : Instance → MonoidStructure V) (Next : W → List (Deed W) → Ask W → Type 0) (C : Costs W) where
  -- t is the serial run of a program that begins as w with these opening values
  pub record IsNestedSerialRun (w : W) (t : Run W) (opening : Cell → ℤ) : Type 0 where
    pub behaves : Behaves W Next w [] t
    -- each frame has its begin, resumes and end in their places, and syncs after it spawned
    pub framed : IsFramed begin_due t
    pub closed : IsClosed t
    pub serial : IsSerial t opening
    pub views : IsSerialViews M t (unit_of M)
    pub created : (i : Instance) → IsCreated i t
    pub retired : (i : Instance) → IsRetiredAtHome i t ⊥
    pub within : (total : Total) → whole C w t total ≤ C.limit total

  -- the properties of a consistent cut, and so of each state that steps lead to
  pub record Agrees (w : W) (t : Run W) (opening : Cell → ℤ) (s : State W V) : Type 0 where
    pub consistent : IsConsistent M C w t opening s
    -- each frame is one of the serial run's, and its deeds and answers are a prefix of its deeds
    -- there
    pub strands : (n : Name) → BeginsSerially t s.frames n
    pub at_most_once : (n : Name) → times n s.joins ≤ 1
    -- even with the next ask of a frame that isn't waiting, no total exceeds the whole serial run's
    pub room : (total : Total) (n : Name) (frame : Frame W) (ask : Ask W) → IsAsking W V M Next C s n frame ask → s.totals total + cost C total frame.what frame.deeds ask ≤ whole C w t total
    -- no total exceeds the serial run's; a complete run has the same totals, and before that there
    -- are fewer events
    pub totals : (total : Total) → s.totals total ≤ whole C w t total
    pub spent : IsFull t 1 (deeds_at (s.frames [])) (below s.frames) → (total : Total) → s.totals total ≡ whole C w t total
    pub unspent : ¬ (IsFull t 1 (deeds_at (s.frames [])) (below s.frames)) → s.totals EventTotal < whole C w t EventTotal
    pub complete : HasEnd (deeds_at (s.frames [])) → IsFull t 1 (deeds_at (s.frames [])) (below s.frames)
    pub deeds : HasEnd (deeds_at (s.frames [])) → deeds_at (s.frames []) ≡ own_deeds t
    pub outcome : HasEnd (deeds_at (s.frames [])) → (c : Cell) → s.memory c ≡ value_after t c (opening c)
    pub once : HasEnd (deeds_at (s.frames [])) → (n : Name) → times n s.joins ≡ spawned s.frames n
    pub reducers : HasEnd (deeds_at (s.frames [])) → (i : Instance) → s.piece [] i ≡ view_after (M i) i t (unit_of M i)

  -- the opening state is a consistent cut
  abbrev pub IsOpened : W → Run W → (Cell → ℤ) → Type 0
  IsOpened w t opening = (s : State W V) → IsOpening W V M Next C w opening s → IsConsistent M C w t opening s

  -- each step leads from a consistent cut to a consistent cut
  abbrev pub IsKept : W → Run W → (Cell → ℤ) → Type 0
  IsKept w t opening = (s s' : State W V) (n : Name) → IsConsistent M C w t opening s → Step W V M Next C s n s' → IsConsistent M C w t opening s'

  -- every consistent cut agrees with the serial run, whatever steps led to it
  abbrev pub CutsAgree : W → Run W → (Cell → ℤ) → Type 0
  CutsAgree w t opening = (s : State W V) → IsConsistent M C w t opening s → Agrees w t opening s

  -- whatever steps are made from the opening state, the state agrees with the serial run
  abbrev pub IsDeterminate : W → Run W → (Cell → ℤ) → Type 0
  IsDeterminate w t opening = (ns : List Name) (s s' : State W V) → IsOpening W V M Next C w opening s → Steps W V M Next C ns s s' → Agrees w t opening s'

-- A list of the run's events has no race, for some numbering of cells and reducers. A number that
-- two of them share could only add races.
pub record HasNoRaces {W : Type 0} (t : Run W) : Type 0 where
  pub cell : Cell → ℕ
  pub instance : Instance → numbered.Instance
  pub events : List numbers.Event
  pub written : AreWritten cell instance (trace t) events
  pub free : IsRaceFree events

-- a behaviour given as a function of a frame's history
abbrev pub follows : {W : Type 0} → (W → List (Deed W) → Option (Ask W)) → W → List (Deed W) → Ask W → Type 0
follows next w past a = next w past ≡ Some a
