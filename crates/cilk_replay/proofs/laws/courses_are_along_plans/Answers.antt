use Rattle.cilk_replay.proofs.CourseLists.{courses_along}
use Rattle.cilk_replay.proofs.laws.courses_are_along_plans.Goals as goal

pub returns : goal.returns
returns types c = λ M next same. courses_along _ _ M next same
