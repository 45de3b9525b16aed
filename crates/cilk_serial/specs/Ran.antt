-- The meaning of a run's result.
use Rattle.std.specs.Prelude.{◌≡◌, ◌⊎◌, ℕ, ◌+◌, ℤ, List, length}
use Rattle.cilk_types.specs.declared.event.Event.{Event}
use Rattle.cilk_types.specs.declared.fault.Fault.{Fault}
use Rattle.cilk_types.specs.declared.outcome.Outcome.{Outcome}
use Rattle.cilk_program.specs.Syntax.{Source}
use Rattle.cilk_program.specs.Outcomes.{Leaves, StopsBy}
use Rattle.cilk_program.specs.Elision.{IsElision}
use Rattle.cilk_program.specs.SerialRun.{Transcript, IsSerialRun}
use Rattle.cilk_program.specs.Agreement.{IsLimit}
use Rattle.cilk_serial.specs.declared.fault.RunFault.{RunFault}
use Rattle.cilk_serial.specs.declared.fault.RunFault.TheVariants.{Memory, At}

-- the outcome is the serial elision's, and the events are those of the serial run, which ends with
-- it
pub record Ran (p : Source) (inputs : List ℤ) (o : Outcome) (events : List Event) : Type 0 where
  pub run : Transcript
  pub serial : IsSerialRun p inputs run events (Leaves o)
  pub elision : IsElision p inputs (Leaves o)

-- The serial run makes these events, and is then stopped by this fault. Unless the fault is a
-- limit, the elision ends by it too.
pub record StopsAfter (p : Source) (inputs : List ℤ) (events : List Event) (fault : Fault) : Type 0 where
  pub run : Transcript
  pub serial : IsSerialRun p inputs run events (StopsBy fault)
  pub elision : IsElision p inputs (StopsBy fault) ⊎ IsLimit fault

-- the fault replaces the event at this position
pub record Stops (p : Source) (inputs : List ℤ) (fault : Fault) (at : ℕ) : Type 0 where
  pub events : List Event
  pub stops : StopsAfter p inputs events fault
  pub place : at ≡ length events + 1

-- out of memory says nothing about the program
abbrev pub IsRunFault : Source → List ℤ → RunFault → Type 0
IsRunFault p inputs Memory = Unit {0}
IsRunFault p inputs (At fault at) = Stops p inputs fault at
