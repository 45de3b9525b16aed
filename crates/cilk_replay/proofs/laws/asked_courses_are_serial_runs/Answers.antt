use Rattle.cilk_replay.proofs.CourseFrames.{courses_are_runs}
use Rattle.cilk_replay.proofs.laws.asked_courses_are_serial_runs.Goals as goal

pub returns : goal.returns
returns c = courses_are_runs
