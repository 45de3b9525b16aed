use Rattle.cilk_shared.proofs.Along.{frames_along}
use Rattle.cilk_shared.proofs.piece_laws.frames_are_along.Goals as goal

pub returns : goal.returns
returns c = frames_along
