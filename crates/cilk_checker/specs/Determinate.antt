-- Determinate runs.
use Rattle.std.specs.Prelude.{ℤ, List, refl}
use Rattle.std.specs.Coded.{Coded, code_by, coded×, coded_list, coded_ℤ}
use Rattle.cilk_types.specs.contracts.event.Event as event
use Rattle.cilk_types.specs.contracts.outcome.Outcome as outcome
use Rattle.cilk_program.specs.contracts.program.Program as program
use Rattle.cilk_types.specs.declared.event.Event.{Event}
use Rattle.cilk_types.specs.declared.outcome.Outcome.{Outcome}
use Rattle.cilk_program.specs.declared.program.Program.{Program}
use Rattle.cilk_program.specs.Sources.{source}
use Rattle.cilk_program.specs.Syntax.{Source}
use Rattle.cilk_tree.specs.Shape.{Shape}
use Rattle.cilk_tree.specs.Tree.{tree}
use Rattle.cilk_tree.specs.Races.{HasNoRace}
use Rattle.cilk_peers.specs.ViewRaces.{HasNoViewRace}
use Rattle.cilk_determinacy.specs.Settled.{AlwaysAsSerial}
use Rattle.cilk_lower.specs.declared.layout.PlannedFrame.{PlannedFrame}
use Rattle.cilk_checker.specs.Frames.{AreFramesIn}
use Rattle.cilk_checker.specs.Refusals.{Ended}

-- These are the events and the outcome of the program's serial run, no two positions of it race in
-- either way, and in every schedule each state is a part of that run.
pub record IsDeterminateRun (p : Source) (inputs : List ℤ) (s : Shape) (es : List Event) (o : Outcome) : Type 0 where
  pub ended : Ended p inputs s es o
  pub races : HasNoRace (tree s) es
  pub view_races : HasNoViewRace (tree s) es
  pub parallel : AlwaysAsSerial p inputs ended.ran.run o

-- an accepted program with its input, and the events and the outcome of its serial run
pub record AcceptedRun : Type 0 where
  pub program : Program
  pub input : List ℤ
  pub trace : List Event
  pub outcome : Outcome

abbrev pub run_code : Coded AcceptedRun
run_code =
    code_by (Program × (List ℤ × (List Event × Outcome)))
    (coded× program.the_row.coded (coded× (coded_list coded_ℤ) (coded× (coded_list event.the_row.coded) outcome.the_row.coded)))
    (λ v. (v.program, (v.input, (v.trace, v.outcome))))
    (λ t. record { program = t.0; input = t.1.0; trace = t.1.1.0; outcome = t.1.1.1 }) (λ v. refl)

-- its run is determinate
abbrev pub HasDeterminateRun : AcceptedRun → Type 0
HasDeterminateRun a = (s : Shape) × IsDeterminateRun (source a.program) a.input s a.trace a.outcome

-- these are its frames, in the order of their numbers
abbrev pub AreFramesOf : AcceptedRun → List PlannedFrame → Type 0
AreFramesOf a frames = AreFramesIn (source a.program) a.input a.trace a.outcome frames
