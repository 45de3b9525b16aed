use Rattle.cilk_replay.proofs.CourseFrames.{runs_are_courses}
use Rattle.cilk_replay.proofs.laws.serial_runs_are_their_courses.Goals as goal

pub returns : goal.returns
returns c = runs_are_courses
