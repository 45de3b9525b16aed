-- Properties of the events of a serial run.
use Rattle.std.specs.Prelude.{◌≡◌, ◌≤◌, ℕ, zero, suc, ℤ, IsTrue, List, [], ◌∷◌, ◌++◌, Some}
use Rattle.cilk_types.specs.declared.event.Event.{Event}
use Rattle.cilk_types.specs.declared.event.Event.TheVariants.{Begin, Read, Write}
use Rattle.cilk_types.specs.declared.limits.TheConstants.{MAX_FRAMES}
use Rattle.cilk_types.specs.declared.outcome.Outcome.{Outcome}
use Rattle.cilk_program.specs.Outcomes.{Conclusion, Leaves}
use Rattle.cilk_program.specs.Syntax.{Source}
use Rattle.cilk_program.specs.SerialRun.{Transcript, IsSerialRun}
use Rattle.cilk_program.specs.WellNamed.{is_well_named}
use Rattle.cilk_program.specs.Answered.{opening_cells}
use Rattle.cilk_tree.specs.Races.{event_at}
use Rattle.cilk_tree.specs.Sources.{source_at}
use Rattle.cilk_tree.specs.Tree.{Tree}
use Rattle.cilk_peers.specs.ViewRaces.{AreCreatedBeforeUse, IsFirstViewRace, IsCreationAndUse}

-- each reducer is created before its other events, so the first view-read race is of a creation and
-- a set or value
pub record HasCreations (es : List Event) : Type 0 where
  pub created : AreCreatedBeforeUse es
  pub first : (t : Tree) (p q : ℕ) → IsFirstViewRace t es p q → IsCreationAndUse t es p q

-- the read at position q gives the value of its source, or the cell's opening value if it has none
pub record HasReadSource (opening : ℕ → ℤ) (es : List Event) (q c : ℕ) (v : ℤ) : Type 0 where
  pub opened : source_at es c q ≡ 0 → v ≡ opening c
  pub written : (s : ℕ) → source_at es c q ≡ suc s → event_at es (suc s) ≡ Some (Write c v)

abbrev pub frame_begun : Event → List ℕ
frame_begun (Begin f) = f ∷ []
frame_begun e = []

-- the frames that begin, in order
abbrev pub frames_begun : List Event → List ℕ
frames_begun [] = []
frames_begun (e ∷ es) = frame_begun e ++ frames_begun es

-- k numbers, counted from n
abbrev pub count_from : ℕ → ℕ → List ℕ
count_from n zero = []
count_from n (suc k) = n ∷ count_from (suc n) k

-- frames are numbered from 1 as they begin, and their number is within its limit
pub record HasCountedFrames (es : List Event) : Type 0 where
  pub many : ℕ
  pub few : many ≤ MAX_FRAMES
  pub begun : frames_begun es ≡ count_from 1 many

module _ (p : Source) (inputs : List ℤ) where
  abbrev pub FramesAreCounted : Type 0
  FramesAreCounted = (r : Transcript) (es : List Event) (outcome : Outcome) → IsTrue (is_well_named p) → IsSerialRun p inputs r es (Leaves outcome) → HasCountedFrames es

  abbrev pub RunsHaveCreations : Type 0
  RunsHaveCreations = (r : Transcript) (es : List Event) (c : Conclusion) → IsTrue (is_well_named p) → IsSerialRun p inputs r es c → HasCreations es

  abbrev pub ReadsHaveSources : Type 0
  ReadsHaveSources =
      (r : Transcript) (es : List Event) (c : Conclusion) → IsTrue (is_well_named p) → IsSerialRun p inputs r es c
      → (q cell : ℕ) (v : ℤ) → 1 ≤ q → event_at es q ≡ Some (Read cell v) → HasReadSource (opening_cells p inputs) es q cell v
