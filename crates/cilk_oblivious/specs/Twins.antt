-- The run on another input beside an oblivious one: the same events but for their values.
use Rattle.std.specs.Prelude.{◌≡◌, ℕ, ℤ, Bool, true, false, List, map}
use Rattle.cilk_types.specs.declared.invocation.Invocation.{Invocation}
use Rattle.cilk_types.specs.declared.event.Event.{Event}
use Rattle.cilk_types.specs.declared.event.Instance.{Instance}
use Rattle.cilk_monoid.specs.declared.kind.MonoidKind.{MonoidKind}
use Rattle.cilk_monoid.specs.Values.{ViewValue}
use Rattle.cilk_program.specs.declared.ask.Ask.{Ask}
use Rattle.cilk_program.specs.declared.ask.Callee.{Callee}
use Rattle.cilk_program.specs.Syntax.{Source}
use Rattle.cilk_program.specs.Store.{Store}
use Rattle.cilk_program.specs.Outcomes.{Conclusion, Leaves, StopsBy}
use Rattle.cilk_program.specs.SerialRun.{Transcript, stop, act, child, Memory, Frame, Ending, Finished, Stopped, Serial, IsSerialRun}
use Rattle.cilk_tree.specs.Kinds.{kind_of}
use Rattle.cilk_oblivious.specs.Pairs.{IsAlike, InputsAreAlike}
use Rattle.cilk_oblivious.specs.Open.{Labels, IsObliviousRun, ask_with, callee_with}

-- two views, which are equal unless they are marked
abbrev pub ViewsAreAlike : Bool → ViewValue → ViewValue → Type 0
ViewsAreAlike true v w = Unit {0}
ViewsAreAlike false v w = v ≡ w

pub record StoresAreAlike (l : Labels) (s s' : Store Instance) : Type 0 where
  pub cells : (n : ℕ) → IsAlike (l.cells n) (s.cells n) (s'.cells n)
  pub views : (k : MonoidKind) (i : Instance) → ViewsAreAlike (l.views k i) (s.views k i) (s'.views k i)

-- the same frame, given other words
abbrev pub frame_with : Frame → List ℤ → Frame
frame_with fr ws = record fr { callee = callee_with fr.callee ws }

abbrev pub memory_with : Memory → Store Instance → Memory
memory_with m s = record m { store = s }

-- the same end, with another value and another store
abbrev pub ending_with : Ending → ℤ → Store Instance → Ending
ending_with (Finished v left m) w s = Finished w left (memory_with m s)
ending_with (Stopped f) w s = Stopped f

abbrev pub EndsAlike : Labels → Ending → Store Instance → Type 0
EndsAlike l (Finished v left m) s = StoresAreAlike l m.store s
EndsAlike l (Stopped f) s = Unit {0}

-- two runs of a frame that make the same requests, with other words and answers
pub data TranscriptsAreAlike : Transcript → Transcript → Type 0 where
  NothingAlike : TranscriptsAreAlike stop stop
  ActsAlike : {r r' : Transcript} (k : Ask) (ws : List ℤ) (answer other : ℤ) → TranscriptsAreAlike r r' → TranscriptsAreAlike (act k answer r) (act (ask_with k ws) other r')
  ChildrenAlike : {u u' r r' : Transcript} (how : Invocation) (callee : Callee) (ws : List ℤ) → TranscriptsAreAlike u u' → TranscriptsAreAlike r r'
      → TranscriptsAreAlike (child how callee u r) (child how (callee_with callee ws) u' r')

-- A run of the frame with the same requests as this one and the same events, but for their values, and
-- the same end.
pub record Twin (p : Source) (others : List ℤ) (fr : Frame) (start : ℕ) (history : List ℤ) (m : Memory) (r : Transcript) (es : List Event) (end : Ending) (l : Labels) : Type 0 where
  pub run : Transcript
  pub events : List Event
  pub value : ℤ
  pub store : Store Instance
  pub serial : Serial p others fr start history m run events (ending_with end value store)
  pub requests : TranscriptsAreAlike r run
  pub kinds : map kind_of events ≡ map kind_of es
  pub stores : EndsAlike l end store

-- the same end, without values
abbrev pub ConcludesAlike : Conclusion → Conclusion → Type 0
ConcludesAlike (Leaves o) (Leaves o') = Unit {0}
ConcludesAlike (StopsBy f) (StopsBy g) = f ≡ g
ConcludesAlike _ _ = ⊥

-- If no hidden number decides a serial run, then each input that differs from its own in hidden
-- numbers alone has a serial run with the same requests and events but for their values, which ends
-- in the same way: without a fault, or by the same fault.
abbrev pub ObliviousRunsHaveTwins : Type 0
ObliviousRunsHaveTwins =
    (p : Source) (inputs : List ℤ) (hidden : ℕ → Bool) (es : List Event) (c : Conclusion) → IsObliviousRun p inputs hidden es c
    → (others : List ℤ) → InputsAreAlike hidden inputs others
    → (run : Transcript) × (events : List Event) × (d : Conclusion) × IsSerialRun p others run events d × (map kind_of events ≡ map kind_of es) × ConcludesAlike c d
    × ((r : Transcript) (es' : List Event) (c' : Conclusion) → IsSerialRun p inputs r es' c' → TranscriptsAreAlike r run)
