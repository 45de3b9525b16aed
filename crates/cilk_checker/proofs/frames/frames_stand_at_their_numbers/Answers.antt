use Rattle.cilk_checker.proofs.Standing.{frames_stand}
use Rattle.cilk_checker.proofs.frames.frames_stand_at_their_numbers.Goals as goal

pub returns : goal.returns
returns c = frames_stand
