-- The list of a course's events has the outcome of its run by names: the cells (`cells_left`) and
-- the output (`prints_are`).
use Rattle.std.proofs.Common.{◌≡◌, ℕ, ℤ, List, [], ◌∷◌, ◌++◌, sym, ap, ap₂, refl}
use Rattle.cilk_types.specs.declared.event.Event as numbers
use Rattle.cilk_types.specs.declared.event.Instance as numbered
use Rattle.cilk_types.specs.declared.invocation.Invocation.TheVariants.{Call, Spawn}
use Rattle.cilk_program.specs.Outcomes.{Leaves}
use Rattle.cilk_program.specs.SerialRun.{Transcript}
use Rattle.cilk_program.specs.Syntax.{Source}
use Rattle.cilk_program.specs.Answered as answered
use Rattle.cilk_program.specs.Answered.{cells_after, opening_cells, prints}
use Rattle.cilk_determinacy.specs.Monoids.{unit_of}
use Rattle.cilk_determinacy.specs.Runs.{Cell, Instance, Reads, Writes, Syncs, Ends, Passes, Begins, Resumes, Creates, Updates, Sets, Values, Prints, Deed, Does, Invokes}
use Rattle.cilk_determinacy.specs.Serial.{value_after}
use Rattle.cilk_determinacy.specs.Traces.{trace, IsWritten, AreWritten}
use Rattle.cilk_determinacy.specs.FrameEnvMachine.{next, opening_values}
use Rattle.cilk_determinacy.specs.Reducers.{View, monoid_of}
use Rattle.cilk_determinacy.specs.FrameEnvs.{FrameEnv, first_env}
use Rattle.cilk_determinacy.specs.Nested.{named}
use Rattle.cilk_determinacy.specs.Numbers.{cell_number, instance_number, HasCell}
use Rattle.cilk_determinacy.specs.Words.{InputsAreWords}
use Rattle.cilk_determinacy.proofs.Numbered.{events_numbered}
use Rattle.cilk_determinacy.proofs.Numbers.{same_cells}
use Rattle.cilk_replay.specs.InputCourses.{Course, run_of}
use Rattle.cilk_replay.specs.Frames.{same_frame, course_on}
use Rattle.cilk_replay.specs.Left.{printed_by, printed_in}
use Rattle.cilk_replay.specs.Lists.{with_values}
use Rattle.cilk_replay.specs.EventOrders.{IsPlannedRun}
use Rattle.cilk_replay.proofs.CourseValues.{course_known, tied_after}
use Rattle.cilk_replay.proofs.EventOrderValues.{cells_open, course, known_here, written}

-- ---- what is printed
module _ (cell : Cell → ℕ) (instance : Instance → numbered.Instance) where
  print_is : (d : Deed FrameEnv) (e : numbers.Event) → IsWritten cell instance d e → printed_by d ≡ answered.printed_by e
  print_is (Does (Reads c v)) e is = ap answered.printed_by (sym is)
  print_is (Does (Writes c v)) e is = ap answered.printed_by (sym is)
  print_is (Does Syncs) e is = ap answered.printed_by (sym is)
  print_is (Does (Ends v gone)) e is = ap answered.printed_by (sym is)
  print_is (Does (Passes Begins)) e is = ap answered.printed_by (sym is.1)
  print_is (Does (Passes Resumes)) e is = ap answered.printed_by (sym is.1)
  print_is (Does (Passes (Creates i))) e is = ap answered.printed_by (sym is)
  print_is (Does (Passes (Updates i x))) e is = ap answered.printed_by (sym is)
  print_is (Does (Passes (Sets i x))) e is = ap answered.printed_by (sym is)
  print_is (Does (Passes (Values i n))) e is = ap answered.printed_by (sym is)
  print_is (Does (Passes (Prints x))) e is = ap answered.printed_by (sym is)
  print_is (Invokes Call w) e is = ap answered.printed_by (sym is.1)
  print_is (Invokes Spawn w) e is = ap answered.printed_by (sym is.1)

  pub prints_are : (ds : List (Deed FrameEnv)) (es : List numbers.Event) → AreWritten cell instance ds es → printed_in ds ≡ prints es
  prints_are [] [] h = refl
  prints_are [] (e ∷ es) h = absurd h
  prints_are (d ∷ ds) [] h = absurd h
  prints_are (d ∷ ds) (e ∷ es) h = ap₂ (λ (l m : List ℤ). l ++ m) (print_is d e h.0) (prints_are ds es h.1)

-- ---- along a plan
module _ (p : Source) (inputs : List ℤ) (r : Transcript) (es : List numbers.Event) (opening : List ℤ) (is : IsPlannedRun p inputs r es opening) (others : List ℤ) (are : InputsAreWords others) where
  abbrev c : Course FrameEnv
  c = course_on p others (named p r)

  abbrev list : List numbers.Event
  list = with_values es (trace (run_of c))

  -- a cell of the run has the last value of the cell with its number in the list
  pub cells_left : (i : Cell) → HasCell p r i → value_after (run_of c) i (opening_values p others i) ≡ cells_after list (opening_cells p inputs) (cell_number p r i)
  cells_left i has =
      let n = events_numbered p inputs r es (Leaves is.outcome) is.named is.runs in
      tied_after (cell_number p r) (instance_number p r) (HasCell p r) (same_cells p r) FrameEnv (opening_values p others) (opening_cells p inputs) (run_of c) list
      (written p inputs r es opening is others are)
      (course_known (cell_number p r) (instance_number p r) (HasCell p r) (same_cells p r) FrameEnv View monoid_of (next p others) (same_frame p) (first_env p) [] (opening_values p others) (unit_of monoid_of) (named p r) c
      (course p inputs r es opening is others are) (known_here p r (named p r) n.here))
      (cells_open p inputs r) i has

  pub prints_left : printed_in (trace (run_of c)) ≡ prints list
  prints_left = prints_are (cell_number p r) (instance_number p r) (trace (run_of c)) list (written p inputs r es opening is others are)
