use Rattle.cilk_replay.proofs.CourseRuns.{asked_is_serial}
use Rattle.cilk_replay.proofs.laws.asked_course_is_serial.Goals as goal

pub returns : goal.returns
returns types c = λ M next same. asked_is_serial _ _ M next same
