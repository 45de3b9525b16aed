-- The courses of a program's runs, for the language.
use Rattle.std.specs.Prelude.{◌≡◌, ℤ, nat_eq, Bool, false, ◌&&◌, List, []}
use Rattle.cilk_program.specs.declared.program.Body.{Body}
use Rattle.cilk_program.specs.declared.program.Body.TheVariants.{Function, Loop}
use Rattle.cilk_program.specs.Inside.{body_of}
use Rattle.cilk_program.specs.Syntax.{Source}
use Rattle.cilk_determinacy.specs.Monoids.{unit_of}
use Rattle.cilk_determinacy.specs.Runs.{Run, same_name}
use Rattle.cilk_determinacy.specs.FrameEnvMachine.{next, opening_values}
use Rattle.cilk_determinacy.specs.Reducers.{View, monoid_of}
use Rattle.cilk_determinacy.specs.FrameEnvs.{FrameEnv, first_env}
use Rattle.cilk_replay.specs.InputCourses.{Course, run_of, all_asked, IsAskedThroughout, IsCourse, course_of, IsSerialRunFrom}

abbrev pub same_body : Body → Body → Bool
same_body (Function n) (Function m) = nat_eq n m
same_body (Loop n) (Loop m) = nat_eq n m
same_body _ _ = false

-- two frames have one name and run one function or one loop, whatever their arguments
abbrev pub same_frame : Source → FrameEnv → FrameEnv → Bool
same_frame p v w = same_name v.name w.name && same_body (body_of p v.callee) (body_of p w.callee)

-- the run is a serial run of the program on the inputs; each frame may use all the ticks of a run
-- for itself
abbrev pub IsSerialRunOn : Source → List ℤ → Run FrameEnv → Type 0
IsSerialRunOn p inputs t =
    IsSerialRunFrom FrameEnv View monoid_of (next p inputs) (same_frame p) (first_env p) (opening_values p inputs) (unit_of monoid_of) t

-- the course of a run of the program on other inputs
abbrev pub IsCourseOn : Source → List ℤ → Run FrameEnv → Course FrameEnv → Type 0
IsCourseOn p inputs t c =
    IsCourse FrameEnv View monoid_of (next p inputs) (same_frame p) (first_env p) [] (opening_values p inputs) (unit_of monoid_of) t c

abbrev pub course_on : Source → List ℤ → Run FrameEnv → Course FrameEnv
course_on p inputs t = course_of FrameEnv View monoid_of (next p inputs) (same_frame p) (first_env p) [] (opening_values p inputs) (unit_of monoid_of) t

-- A program's run has exactly one course on given inputs.
abbrev pub ProgramsHaveOneCourse : Type 0
ProgramsHaveOneCourse =
    (p : Source) (inputs : List ℤ) (t : Run FrameEnv) → IsCourseOn p inputs t (course_on p inputs t)
    × ((c : Course FrameEnv) → IsCourseOn p inputs t c → c ≡ course_on p inputs t)

-- On its own inputs a serial run is its own course, and each of its events is requested.
abbrev pub SerialRunsAreTheirCourses : Type 0
SerialRunsAreTheirCourses =
    (p : Source) (inputs : List ℤ) (t : Run FrameEnv) → IsSerialRunOn p inputs t
    → IsCourseOn p inputs t (all_asked t) × IsAskedThroughout (all_asked t) × (run_of (all_asked t) ≡ t)

-- The course of a serial run on other inputs is a serial run on those, if each of its events is
-- requested.
abbrev pub AskedCoursesAreSerialRuns : Type 0
AskedCoursesAreSerialRuns =
    (p : Source) (inputs others : List ℤ) (t : Run FrameEnv) (c : Course FrameEnv) → IsSerialRunOn p inputs t
    → IsCourseOn p others t c → IsAskedThroughout c → IsSerialRunOn p others (run_of c)
