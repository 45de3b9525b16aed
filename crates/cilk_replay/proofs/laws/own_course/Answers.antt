use Rattle.cilk_replay.proofs.CourseRuns.{own_course as own}
use Rattle.cilk_replay.proofs.laws.own_course.Goals as goal

pub returns : goal.returns
returns types c = λ M next same. own _ _ M next same
