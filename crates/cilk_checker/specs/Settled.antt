-- The verdict on a program and an input by one serial run.
use Rattle.std.specs.Prelude.{ℤ, List, Option, Some, None}
use Rattle.cilk_types.specs.declared.event.Event.{Event}
use Rattle.cilk_types.specs.declared.outcome.Outcome.{Outcome}
use Rattle.cilk_program.specs.Syntax.{Source}
use Rattle.cilk_program.specs.Outcomes.{Leaves}
use Rattle.cilk_program.specs.SerialRun.{Transcript, IsSerialRun}
use Rattle.cilk_tree.specs.Shape.{Shape, Spells}
use Rattle.cilk_tree.specs.Tree.{Tree, tree}
use Rattle.cilk_tree.specs.Races.{HasNoRace, IsFirstRace}
use Rattle.cilk_peers.specs.ViewRaces.{HasNoViewRace, IsCreationAndUse, IsFirstViewRace}
use Rattle.cilk_checker.specs.declared.settle.FirstRace.{FirstRace}
use Rattle.cilk_checker.specs.declared.settle.FirstRace.TheVariants.{Determinacy, ViewRead}
use Rattle.cilk_checker.specs.declared.settle.Verdict.{Verdict}
use Rattle.cilk_checker.specs.declared.settle.Verdict.TheVariants.{Settled, Race}
use Rattle.cilk_determinacy.specs.Settled.{IsSettled}

-- the first race of a list: none, or the first determinacy race, or else the first view-read race
abbrev pub IsFirstOf : Tree → List Event → Option FirstRace → Type 0
IsFirstOf t es None = HasNoRace t es × HasNoViewRace t es
IsFirstOf t es (Some (Determinacy earlier later)) = IsFirstRace t es earlier later
IsFirstOf t es (Some (ViewRead created used)) = HasNoRace t es × IsFirstViewRace t es created used

-- the events of a race: any two of a determinacy race, and a creation and a use of a view-read race
abbrev pub AreOfRace : Tree → List Event → FirstRace → Type 0
AreOfRace t es (Determinacy earlier later) = Unit {0}
AreOfRace t es (ViewRead created used) = IsCreationAndUse t es created used

module _ (p : Source) (inputs : List ℤ) where
  -- the serial run ends without a fault, and this is its first race
  pub record RacesAt (first : FirstRace) : Type 0 where
    pub run : Transcript
    pub events : List Event
    pub outcome : Outcome
    pub serial : IsSerialRun p inputs run events (Leaves outcome)
    pub shape : Shape
    pub spells : Spells shape events
    pub is_first : IsFirstOf (tree shape) events (Some first)
    pub events_of : AreOfRace (tree shape) events first

  -- a verdict on a program and an input
  abbrev pub IsVerdict : Verdict → Type 0
  IsVerdict (Settled outcome) = IsSettled p inputs outcome
  IsVerdict (Race first) = RacesAt first
