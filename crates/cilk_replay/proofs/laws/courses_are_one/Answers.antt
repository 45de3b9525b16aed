use Rattle.cilk_replay.proofs.OneCourse.{courses_are_one as one}
use Rattle.cilk_replay.proofs.laws.courses_are_one.Goals as goal

pub returns : goal.returns
returns types c = λ M next same. one _ _ M next same
