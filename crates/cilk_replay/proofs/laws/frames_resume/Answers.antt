use Rattle.cilk_replay.proofs.Resumed.{frames_resume as resumed}
use Rattle.cilk_replay.proofs.laws.frames_resume.Goals as goal

pub returns : goal.returns
returns c = resumed
