-- A serial run that is made one event at a time.
use Rattle.std.specs.Prelude.{◌≡◌, ◌-◌, ℤ, List, [], ◌∷◌, ◌++◌, length, slice_get, All, Option, None, Some, refl}
use Rattle.std.specs.Coded.{Coded, code_by, coded×, coded_list, coded_ℤ}
use Rattle.cilk_types.specs.contracts.event.Event as event
use Rattle.cilk_program.specs.contracts.program.Program as program
use Rattle.cilk_serial.specs.contracts.serial_run.Stage as stage
use Rattle.cilk_types.specs.declared.event.Event.{Event}
use Rattle.cilk_types.specs.declared.event.Event.TheVariants as events
use Rattle.cilk_types.specs.declared.fault.Fault.{Fault}
use Rattle.cilk_types.specs.declared.outcome.Outcome.{Outcome}
use Rattle.cilk_program.specs.declared.ask.Callee.{Callee}
use Rattle.cilk_program.specs.declared.ask.Callee.TheVariants.{Root}
use Rattle.cilk_program.specs.declared.ask.Callee.TheVariants as callee
use Rattle.cilk_program.specs.declared.program.Program.{Program}
use Rattle.cilk_program.specs.Sources.{source}
use Rattle.cilk_program.specs.Syntax.{Source}
use Rattle.cilk_program.specs.Outcomes.{Conclusion}
use Rattle.cilk_program.specs.SerialRun.{Transcript, stop, act, child, IsSerialRun}
use Rattle.cilk_serial.specs.declared.serial_run.Next.{Next}
use Rattle.cilk_serial.specs.declared.serial_run.Next.TheVariants as next
use Rattle.cilk_serial.specs.declared.serial_run.Stage.{Stage}
use Rattle.cilk_serial.specs.declared.serial_run.Stage.TheVariants as stages
use Rattle.cilk_serial.specs.declared.serial_run.Target.{Target}
use Rattle.cilk_serial.specs.declared.serial_run.Target.TheVariants as targets
use Rattle.cilk_serial.specs.Ran.{Ran, StopsAfter}

-- These events are a prefix of the events of the serial run, which ends by itself or by a fault.
pub record IsSoFar (p : Source) (inputs : List ℤ) (es : List Event) : Type 0 where
  pub run : Transcript
  pub rest : List Event
  pub conclusion : Conclusion
  pub serial : IsSerialRun p inputs run (es ++ rest) conclusion

-- the callees of the frames that a frame and its children begin, in order of their numbers
abbrev pub begun_in : Transcript → List Callee
begun_in stop = []
begun_in (act k a r) = begun_in r
begun_in (child how callee u r) = callee ∷ (begun_in u ++ begun_in r)

-- the callees of all frames of a run, in order of their numbers
abbrev pub callees_of : Transcript → List Callee
callees_of r = Root ∷ begun_in r

-- the callee of the frame that an event begins, if it begins one
abbrev pub callee_at : List Callee → Event → Option Callee
callee_at callees (events.Begin n) = None
callee_at callees (events.Spawn n) = slice_get callees (n - 1)
callee_at callees (events.Call n) = slice_get callees (n - 1)
callee_at callees (events.Resume n) = None
callee_at callees events.Sync = None
callee_at callees events.End = None
callee_at callees (events.Read c v) = None
callee_at callees (events.Write c v) = None
callee_at callees (events.Create i) = None
callee_at callees (events.Update i v) = None
callee_at callees (events.Set i v) = None
callee_at callees (events.Value i v) = None
callee_at callees (events.Print v) = None

-- no frame begins with this event
abbrev pub BeginsNoFrame : Event → Type 0
BeginsNoFrame (events.Begin n) = Unit {0}
BeginsNoFrame (events.Spawn n) = ⊥
BeginsNoFrame (events.Call n) = ⊥
BeginsNoFrame (events.Resume n) = Unit {0}
BeginsNoFrame events.Sync = Unit {0}
BeginsNoFrame events.End = Unit {0}
BeginsNoFrame (events.Read c v) = Unit {0}
BeginsNoFrame (events.Write c v) = Unit {0}
BeginsNoFrame (events.Create i) = Unit {0}
BeginsNoFrame (events.Update i v) = Unit {0}
BeginsNoFrame (events.Set i v) = Unit {0}
BeginsNoFrame (events.Value i v) = Unit {0}
BeginsNoFrame (events.Print v) = Unit {0}

-- in the serial run, the event after these begins a frame with this callee, or none
abbrev pub BeginsNext : Source → List ℤ → List Event → Option Callee → Type 0
BeginsNext p inputs es callee =
    (run : Transcript) (all : List Event) (c : Conclusion) (e : Event)
    → IsSerialRun p inputs run all c → slice_get all (length es) ≡ Some e → callee_at (callees_of run) e ≡ callee

-- A run in progress, as callers see it: its program and inputs, the events so far, and its stage.
pub record RunView : Type 0 where
  pub program : Program
  pub inputs : List ℤ
  pub events : List Event
  pub stage : Stage

-- such a view is stored as the tuple of its fields
abbrev pub view_code : Coded RunView
view_code =
    code_by (Program × (List ℤ × (List Event × Stage)))
    (coded× program.the_row.coded (coded× (coded_list coded_ℤ) (coded× (coded_list event.the_row.coded) stage.the_row.coded)))
    (λ v. (v.program, (v.inputs, (v.events, v.stage))))
    (λ t. record { program = t.0; inputs = t.1.0; events = t.1.1.0; stage = t.1.1.1 }) (λ v. refl)

-- the run has ended
abbrev pub IsOver : Stage → Type 0
IsOver stages.Going = ⊥
IsOver (stages.Ended v) = Unit {0}
IsOver stages.Failed = ⊥

-- memory was never refused
abbrev pub IsIntact : Stage → Type 0
IsIntact stages.Going = Unit {0}
IsIntact (stages.Ended v) = Unit {0}
IsIntact stages.Failed = ⊥

-- one more event is made, which is the next one of the serial run
pub record MakesNext (v : RunView) (e : Event) (v' : RunView) : Type 0 where
  pub program : v'.program ≡ v.program
  pub inputs : v'.inputs ≡ v.inputs
  pub events : v'.events ≡ v.events ++ e ∷ []
  pub so_far : IsSoFar (source v.program) v.inputs v'.events

-- the events so far are all, and the outcome is the elision's
pub record EndsNext (v v' : RunView) : Type 0 where
  pub same : v' ≡ v
  pub over : IsOver v.stage
  pub outcome : Outcome
  pub ran : Ran (source v.program) v.inputs outcome v.events

-- the events so far are all, and a fault stops the run
pub record StopsNext (v : RunView) (fault : Fault) (v' : RunView) : Type 0 where
  pub same : v' ≡ v
  pub stops : StopsAfter (source v.program) v.inputs v.events fault

-- the meaning of the next step
abbrev pub Comes : RunView → Next → RunView → Type 0
Comes v (next.Made e) v' = MakesNext v e v'
Comes v next.Ended v' = EndsNext v v'
Comes v (next.Stops fault) v' = StopsNext v fault v'

-- further events of the serial run are made, or none, and no frame begins with them
pub record RunsOn (v v' : RunView) : Type 0 where
  pub program : v'.program ≡ v.program
  pub inputs : v'.inputs ≡ v.inputs
  pub more : List Event
  pub events : v'.events ≡ v.events ++ more
  pub begins_none : All BeginsNoFrame more
  pub so_far : IsSoFar (source v.program) v.inputs v'.events

-- a run halts here: it has ended, or a fault stops it
abbrev pub HaltsHere : RunView → Option Fault → Type 0
HaltsHere v None = EndsNext v v
HaltsHere v (Some fault) = StopsNext v fault v

-- the remaining events are made, up to the end or a fault
pub record MakesRest (v : RunView) (fault : Option Fault) (v' : RunView) : Type 0 where
  pub program : v'.program ≡ v.program
  pub inputs : v'.inputs ≡ v.inputs
  pub later : (more : List Event) × (v'.events ≡ v.events ++ more)
  pub halts : HaltsHere v' fault

-- the callee without its arguments
abbrev pub IsTargetOf : Option Callee → Option Target → Type 0
IsTargetOf None t = t ≡ None
IsTargetOf (Some callee.Root) t = ⊥
IsTargetOf (Some (callee.Function call)) t = t ≡ Some (targets.Function call.function)
IsTargetOf (Some (callee.Loop part)) t = t ≡ Some (targets.Loop part)

-- the run's next event begins a frame with this callee, or none
pub record BeginsTarget (v : RunView) (t : Option Target) : Type 0 where
  pub callee : Option Callee
  pub is : IsTargetOf callee t
  pub begins : IsIntact v.stage → BeginsNext (source v.program) v.inputs v.events callee
