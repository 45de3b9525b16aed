use Rattle.cilk_program.proofs.Visible.{frames_see}
use Rattle.cilk_program.proofs.runs.frames_see_what_is_there.Goals as goal

pub returns : goal.returns
returns c = frames_see
