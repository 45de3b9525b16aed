-- The events of reducers in a serial run, and the views that they make.
use Rattle.std.specs.Prelude.{◌≡◌, ◌≤◌, ◌-◌, ℕ, suc, ℤ, cond, IsTrue, List, [], ◌∷◌, ◌++◌, take, Some}
use Rattle.cilk_types.specs.declared.event.Event as numbers
use Rattle.cilk_types.specs.declared.event.Event.TheVariants as events
use Rattle.cilk_types.specs.declared.event.Instance as numbered
use Rattle.cilk_types.specs.declared.outcome.Final.{Final}
use Rattle.cilk_types.specs.declared.outcome.Outcome.{Outcome}
use Rattle.cilk_monoid.specs.declared.kind.MonoidKind.{MonoidKind}
use Rattle.cilk_monoid.specs.Kinds.{structure_of, same_kind, final_of}
use Rattle.cilk_monoid.specs.Ranges.{ReducerEvent, Created, Updated, SetTo, Retired, view_of}
use Rattle.cilk_monoid.specs.Values.{ViewValue}
use Rattle.cilk_program.specs.Outcomes.{Conclusion, Leaves}
use Rattle.cilk_program.specs.Syntax.{Source}
use Rattle.cilk_program.specs.SerialRun as serial
use Rattle.cilk_program.specs.SerialRun.{global_reducer}
use Rattle.cilk_program.specs.WellNamed.{is_well_named}
use Rattle.cilk_determinacy.specs.Runs.{Instance, Event, Reads, Writes, Syncs, Ends, Passes, Granted, Begins, Resumes, Creates, Updates, Sets, Values, Prints, Deed, Does, Invokes}
use Rattle.cilk_determinacy.specs.Traces.{trace}
use Rattle.cilk_tree.specs.Races.{event_at}
use Rattle.cilk_determinacy.specs.Nested.{named}
use Rattle.cilk_determinacy.specs.Numbers.{instance_number, HasInstance}
use Rattle.cilk_determinacy.specs.Reducers.{kind_of}
use Rattle.cilk_determinacy.specs.FrameEnvs.{FrameEnv}

-- an event of a reducer with this monoid
pub record OfKind : Type 0 where
  pub kind : MonoidKind
  pub event : ReducerEvent

-- the events of one monoid, in order
abbrev pub only : MonoidKind → List OfKind → List ReducerEvent
only k [] = []
only k (t ∷ ts) = cond (same_kind t.kind k) (t.event ∷ only k ts) (only k ts)

-- the view of a reducer of this monoid over a range of events
abbrev pub view_over : MonoidKind → numbered.Instance → List OfKind → ViewValue
view_over k i ts = view_of (structure_of k) i (only k ts)

module _ (p : Source) (r : serial.Transcript) where
  abbrev pub of_instance : Instance → (numbered.Instance → ReducerEvent) → OfKind
  of_instance i e = record { kind = kind_of i; event = e (instance_number p r i) }

  -- a frame's end retires the reducers that it created for itself
  abbrev pub retired_all : List Instance → List OfKind
  retired_all [] = []
  retired_all (i ∷ is) = of_instance i Retired ∷ retired_all is

  abbrev pub of_mark : Granted → List OfKind
  of_mark Begins = []
  of_mark Resumes = []
  of_mark (Creates i) = of_instance i Created ∷ []
  of_mark (Updates i x) = of_instance i (λ j. Updated j x) ∷ []
  of_mark (Sets i x) = of_instance i (λ j. SetTo j x) ∷ []
  of_mark (Values i v) = []
  of_mark (Prints x) = []

  abbrev pub of_event : Event → List OfKind
  of_event (Reads c v) = []
  of_event (Writes c v) = []
  of_event Syncs = []
  of_event (Ends v gone) = retired_all gone
  of_event (Passes m) = of_mark m

  -- the events of reducers among these deeds, in order
  abbrev pub reducer_events : List (Deed FrameEnv) → List OfKind
  reducer_events [] = []
  reducer_events (Does e ∷ ds) = of_event e ++ reducer_events ds
  reducer_events (Invokes k w ∷ ds) = reducer_events ds

  -- those before a position of the run
  abbrev pub reducer_events_before : ℕ → List OfKind
  reducer_events_before q = reducer_events (take (q - 1) (trace (named p r)))

  -- A value that is read of a reducer is the number of its view over the earlier events. The
  -- reducer has one name in the run, and so one monoid.
  pub record IsViewed (q : ℕ) (i : numbered.Instance) (v : ℤ) : Type 0 where
    pub name : Instance
    pub here : HasInstance p r name
    pub number : instance_number p r name ≡ i
    pub value : v ≡ (structure_of (kind_of name)).number (view_over (kind_of name) i (reducer_events_before q))

-- the last values of the global reducers with these monoids, counted from n, over a range of events
abbrev pub finals_over : List OfKind → ℕ → List MonoidKind → List Final
finals_over ts n [] = []
finals_over ts n (k ∷ ks) = final_of (view_over k (global_reducer n) ts) ∷ finals_over ts (suc n) ks

module _ (p : Source) (inputs : List ℤ) where
  abbrev pub ValuesAreViewed : Type 0
  ValuesAreViewed =
      (r : serial.Transcript) (es : List numbers.Event) (c : Conclusion) → IsTrue (is_well_named p) → serial.IsSerialRun p inputs r es c
      → (q : ℕ) (i : numbered.Instance) (v : ℤ) → 1 ≤ q → event_at es q ≡ Some (events.Value i v) → IsViewed p r q i v

  -- the final values of the global reducers are their views over all events of the run
  abbrev pub FinalsAreViewed : Type 0
  FinalsAreViewed =
      (r : serial.Transcript) (es : List numbers.Event) (outcome : Outcome) → IsTrue (is_well_named p) → serial.IsSerialRun p inputs r es (Leaves outcome)
      → outcome.reducers ≡ finals_over (reducer_events p r (trace (named p r))) 0 p.reducers
