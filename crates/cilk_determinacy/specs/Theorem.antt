-- The theorem on the language.
use Rattle.std.specs.Prelude.{◌≡◌, ◌≤◌, ◌<◌, ℕ, ◌+◌, ℤ, List, [], ◌∷◌, ◌++◌, length, IsTrue, None}
use Rattle.cilk_types.specs.declared.limits.TheConstants.{MAX_EVENTS, MAX_TICKS}
use Rattle.cilk_types.specs.declared.event.Event.{Event}
use Rattle.cilk_types.specs.declared.event.Event.TheVariants as events
use Rattle.cilk_types.specs.declared.outcome.Outcome.{Outcome}
use Rattle.cilk_types.specs.Word.{IsWord}
use Rattle.cilk_program.specs.declared.ask.Callee.{Callee}
use Rattle.cilk_program.specs.declared.ask.Callee.TheVariants as callees
use Rattle.cilk_program.specs.Behaviour.{asks_for, frame_asks}
use Rattle.cilk_program.specs.Syntax.{Source}
use Rattle.cilk_program.specs.WellNamed.{is_well_named}
use Rattle.cilk_program.specs.Outcomes.{Leaves}
use Rattle.cilk_program.specs.Elision.{IsElision}
use Rattle.cilk_program.specs.SerialRun as serial
use Rattle.cilk_program.specs.Ticks.{IsWithin}
use Rattle.cilk_tree.specs.Shape.{Spells}
use Rattle.cilk_peers.specs.RaceFree.{IsRaceFree}
use Rattle.cilk_determinacy.specs.Runs.{Name}
use Rattle.cilk_determinacy.specs.Costs.{Total, TickTotal, EventTotal, FrameTotal, CellTotal, weight}
use Rattle.cilk_determinacy.specs.Machine.{State, deeds_at, HasEnd}
use Rattle.cilk_determinacy.specs.Cuts.{IsConsistent}
use Rattle.cilk_determinacy.specs.MachineTheorem.{IsNestedSerialRun, Agrees}
use Rattle.cilk_determinacy.specs.Traces.{trace, begin_due, IsFramed, shape_of, AreWritten}
use Rattle.cilk_determinacy.specs.Reducers.{View, monoid_of}
use Rattle.cilk_determinacy.specs.FrameEnvs.{FrameEnv, first_env}
use Rattle.cilk_determinacy.specs.FrameEnvMachine.{used, costs, opening_values}
use Rattle.cilk_determinacy.specs.Steps.{Next, IsFirst, OneStep, Reaches, outcome_in}
use Rattle.cilk_determinacy.specs.Nested.{named}
use Rattle.cilk_determinacy.specs.Numbers.{cell_number, instance_number}

-- a reducer is set to a word
abbrev pub SetsWord : Event → Type 0
SetsWord (events.Set i v) = IsWord v
SetsWord e = Unit {0}

abbrev pub SetWords : List Event → Type 0
SetWords [] = Unit {0}
SetWords (e ∷ es) = SetsWord e × SetWords es

module _ (p : Source) (inputs : List ℤ) where
  -- the serial run by names is one in the sense of `MachineTheorem`
  abbrev pub IsSerial : serial.Transcript → Type 0
  IsSerial r = IsNestedSerialRun FrameEnv View monoid_of (Next p inputs) (costs p inputs) (first_env p) (named p r) (opening_values p inputs)

  -- the state is a consistent cut of the serial run by names
  abbrev pub IsCut : serial.Transcript → State FrameEnv View → Type 0
  IsCut r s = IsConsistent monoid_of (costs p inputs) (first_env p) (named p r) (opening_values p inputs) s

  -- the totals of the serial run, as the free machine counts them
  abbrev pub whole : serial.Transcript → Total → ℕ
  whole r total = used p inputs total + weight (costs p inputs) total (first_env p) [] (named p r)

  -- The properties of a consistent cut, and so of each state that steps lead to. Nothing has
  -- stopped it. Each frame's deeds are a prefix of its serial ones, with the same values. Each
  -- child was joined at most once, and no total exceeds the serial run's. Once the first frame has
  -- ended, the result, globals, output and reducers are the serial elision's, each spawned child
  -- was joined exactly once, and the totals are the serial run's. Until then fewer events are made.
  pub record IsAsSerial (r : serial.Transcript) (outcome : Outcome) (s : State FrameEnv View) : Type 0 where
    pub agrees : Agrees FrameEnv View monoid_of (Next p inputs) (costs p inputs) (first_env p) (named p r) (opening_values p inputs) s
    pub not_stopped : s.stopped ≡ None
    pub outcome_is : HasEnd (deeds_at (s.frames [])) → outcome_in p s ≡ outcome
    pub elided : HasEnd (deeds_at (s.frames [])) → IsElision p inputs (Leaves (outcome_in p s))
    pub totals : (total : Total) → s.totals total ≤ whole r total
    pub spent : HasEnd (deeds_at (s.frames [])) → (total : Total) → s.totals total ≡ whole r total
    pub unspent : ¬ (HasEnd (deeds_at (s.frames []))) → s.totals EventTotal < whole r EventTotal

  -- the program is well named, and its serial run ends without a fault, sets reducers to words, and
  -- has no race
  pub record RunsFree (r : serial.Transcript) (es : List Event) (outcome : Outcome) : Type 0 where
    pub named : IsTrue (is_well_named p)
    pub runs : serial.IsSerialRun p inputs r es (Leaves outcome)
    pub sets : SetWords es
    pub free : IsRaceFree es

  -- ---- the laws

  -- With d more ticks the next ask is the same, with d more left, unless they had run out. One more
  -- answer leaves no more ticks.
  pub record TicksAddUp : Type 0 where
    pub more : (callee : Callee) (d : ℕ) (history : List ℤ) (start : ℕ) → IsWithin (frame_asks p inputs callee history start).ask
        → frame_asks p inputs callee history (start + d) ≡ asks_for (frame_asks p inputs callee history start).ask ((frame_asks p inputs callee history start).left + d)
    pub fewer : (callee : Callee) (answer : ℤ) (history : List ℤ) (start : ℕ) → (frame_asks p inputs callee (history ++ answer ∷ []) start).left ≤ (frame_asks p inputs callee history start).left

  abbrev pub SerialRunsByNames : Type 0
  SerialRunsByNames = (r : serial.Transcript) (es : List Event) (outcome : Outcome) → IsTrue (is_well_named p) → serial.IsSerialRun p inputs r es (Leaves outcome) → SetWords es → IsSerial r

  -- the list is that of the serial run by names, by the numbers of its cells and reducers, and it
  -- spells the run's shape
  pub record IsNumbered (r : serial.Transcript) (es : List Event) : Type 0 where
    pub framed : IsFramed begin_due (named p r)
    pub written : AreWritten (cell_number p r) (instance_number p r) (trace (named p r)) es
    pub spells : Spells (shape_of (named p r)) es

  abbrev pub SerialRunsAreNumbered : Type 0
  SerialRunsAreNumbered = (r : serial.Transcript) (es : List Event) (outcome : Outcome) → IsTrue (is_well_named p) → serial.IsSerialRun p inputs r es (Leaves outcome) → IsNumbered r es

  -- the totals of a serial run that ended, as the language counts them: ticks used, events, frames
  -- and cells
  pub record IsCounted (r : serial.Transcript) (es : List Event) (left : ℕ) (m : serial.Memory) : Type 0 where
    pub ticks : whole r TickTotal + left ≡ MAX_TICKS
    pub events : whole r EventTotal ≡ length es
    pub frames : whole r FrameTotal ≡ m.frames
    pub cells : whole r CellTotal ≡ m.cells

  abbrev pub CountsAsSerial : Type 0
  CountsAsSerial =
      (r : serial.Transcript) (es : List Event) (value : ℤ) (left : ℕ) (m : serial.Memory) → IsTrue (is_well_named p)
      → serial.Serial p inputs (serial.root_frame p inputs) MAX_TICKS [] (serial.begun p callees.Root (serial.before_root p inputs MAX_EVENTS)) r es (serial.Finished value left m) → SetWords es → IsCounted r es left m

  abbrev pub OpensAsCut : Type 0
  OpensAsCut = (r : serial.Transcript) (s : State FrameEnv View) → IsFirst p inputs s → IsCut r s

  abbrev pub StepsKeepCuts : Type 0
  StepsKeepCuts = (r : serial.Transcript) (es : List Event) (outcome : Outcome) → RunsFree r es outcome → (s s' : State FrameEnv View) (n : Name) → IsCut r s → OneStep p inputs s n s' → IsCut r s'

  -- each consistent cut of a serial run that ended without a race agrees with that run, whatever
  -- steps led to it
  abbrev pub CutsAreAsSerial : Type 0
  CutsAreAsSerial = (r : serial.Transcript) (es : List Event) (outcome : Outcome) → RunsFree r es outcome → (s : State FrameEnv View) → IsCut r s → IsAsSerial r outcome s

  abbrev pub IsDeterminateProgram : Type 0
  IsDeterminateProgram = (r : serial.Transcript) (es : List Event) (outcome : Outcome) → RunsFree r es outcome → (ns : List Name) (s : State FrameEnv View) → Reaches p inputs ns s → IsAsSerial r outcome s
