-- Courses for the language: `runs_are_courses`, `courses_are_runs`.
use Rattle.std.proofs.Common.{◌≡◌, ℤ, Bool, true, false, ◌&&◌, cond, List, [], ◌∷◌, ◌++◌, None, Some, refl, ap, ◌∙◌, eq-eqb}
use Rattle.cilk_program.specs.declared.program.Body.{Body}
use Rattle.cilk_program.specs.declared.program.Body.TheVariants.{Function, Loop}
use Rattle.cilk_program.specs.Inside.{body_of}
use Rattle.cilk_program.specs.Syntax.{Source}
use Rattle.cilk_determinacy.specs.Monoids.{unit_of}
use Rattle.cilk_determinacy.specs.Runs.{Ask, Instance, Deed, Does, Ends}
use Rattle.cilk_determinacy.proofs.Basics.{same_name-refl}
use Rattle.cilk_determinacy.specs.FrameEnvMachine.{is_end, has_ended, next, opening_values}
use Rattle.cilk_determinacy.specs.Reducers.{View, monoid_of}
use Rattle.cilk_determinacy.specs.FrameEnvs.{FrameEnv, first_env}
use Rattle.cilk_replay.specs.InputCourses.{IsOverWithItsEnd}
use Rattle.cilk_replay.specs.Frames.{same_body, same_frame, ProgramsHaveOneCourse, SerialRunsAreTheirCourses, AskedCoursesAreSerialRuns}
use Rattle.cilk_replay.proofs.CourseRuns.{own_course, asked_is_serial}
use Rattle.cilk_replay.proofs.OneCourse.{courses_are_one}

one_body : (b : Body) → same_body b b ≡ true
one_body (Function n) = eq-eqb n n refl
one_body (Loop n) = eq-eqb n n refl

pub one_frame : (p : Source) (w : FrameEnv) → same_frame p w w ≡ true
one_frame p w = ap (λ (b : Bool). b && same_body (body_of p w.callee) (body_of p w.callee)) (same_name-refl w.name) ∙ one_body (body_of p w.callee)

true_then : (b x : Bool) → x ≡ true → cond b true x ≡ true
true_then true x h = refl
true_then false x h = h

ended_by : (past : List (Deed FrameEnv)) (v : ℤ) (gone : List Instance) → has_ended (past ++ Does (Ends v gone) ∷ []) ≡ true
ended_by [] v gone = refl
ended_by (d ∷ past) v gone = true_then (is_end d) (has_ended (past ++ Does (Ends v gone) ∷ [])) (ended_by past v gone)

pub ends_over : (p : Source) (inputs : List ℤ) → IsOverWithItsEnd FrameEnv View monoid_of (next p inputs) (same_frame p)
ends_over p inputs w past v gone = by (has_ended (past ++ Does (Ends v gone) ∷ [])) (ended_by past v gone) _
  where
    by : (b : Bool) → b ≡ true → (a : Ask FrameEnv) → cond b None (Some a) ≡ None
    by true h a = refl
    by false h a = absurd (cc h)

pub runs_are_courses : SerialRunsAreTheirCourses
runs_are_courses p inputs t run =
    own_course FrameEnv View monoid_of (next p inputs) (same_frame p) (one_frame p) (first_env p) (opening_values p inputs) (unit_of monoid_of) t run

pub courses_are_runs : AskedCoursesAreSerialRuns
courses_are_runs p inputs others t c run course asked =
    asked_is_serial FrameEnv View monoid_of (next p others) (same_frame p) (ends_over p others) (first_env p) (opening_values p others) (unit_of monoid_of) t c run.framed course asked

pub programs_have_one : ProgramsHaveOneCourse
programs_have_one p inputs t =
    courses_are_one FrameEnv View monoid_of (next p inputs) (same_frame p) (one_frame p) (first_env p) [] (opening_values p inputs) (unit_of monoid_of) t
