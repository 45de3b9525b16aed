use Rattle.cilk_replay.proofs.CourseFrames.{programs_have_one}
use Rattle.cilk_replay.proofs.laws.programs_have_one_course.Goals as goal

pub returns : goal.returns
returns c = programs_have_one
