-- The consequences of one serial run without a race.
use Rattle.std.specs.Prelude.{ℤ, List}
use Rattle.cilk_types.specs.declared.event.Event.{Event}
use Rattle.cilk_types.specs.declared.outcome.Outcome.{Outcome}
use Rattle.cilk_program.specs.Syntax.{Source}
use Rattle.cilk_program.specs.Elision.{IsElision}
use Rattle.cilk_program.specs.Outcomes.{Leaves}
use Rattle.cilk_program.specs.SerialRun.{Transcript, IsSerialRun}
use Rattle.cilk_determinacy.specs.Runs.{Name}
use Rattle.cilk_determinacy.specs.Machine.{State}
use Rattle.cilk_determinacy.specs.Reducers.{View}
use Rattle.cilk_determinacy.specs.FrameEnvs.{FrameEnv}
use Rattle.cilk_peers.specs.RaceFree.{IsRaceFree}
use Rattle.cilk_determinacy.specs.Theorem.{IsAsSerial}
use Rattle.cilk_determinacy.specs.Steps.{Reaches}

module _ (p : Source) (inputs : List ℤ) where
  -- whatever steps are made, in any order, the state agrees with this serial run and its outcome
  abbrev pub AlwaysAsSerial : Transcript → Outcome → Type 0
  AlwaysAsSerial r outcome = (ns : List Name) (s : State FrameEnv View) → Reaches p inputs ns s → IsAsSerial p inputs r outcome s

  -- a serial run that ends without a fault and has no race settles every parallel run
  abbrev pub SerialRunsSettle : Type 0
  SerialRunsSettle = (r : Transcript) (es : List Event) (outcome : Outcome) → IsSerialRun p inputs r es (Leaves outcome) → IsRaceFree es → AlwaysAsSerial r outcome

  -- The serial run has this outcome, which is the serial elision's, and no race, so every parallel
  -- run agrees with it.
  pub record IsSettled (outcome : Outcome) : Type 0 where
    pub run : Transcript
    pub events : List Event
    pub elision : IsElision p inputs (Leaves outcome)
    pub serial : IsSerialRun p inputs run events (Leaves outcome)
    pub free : IsRaceFree events
    pub parallel : AlwaysAsSerial run outcome
