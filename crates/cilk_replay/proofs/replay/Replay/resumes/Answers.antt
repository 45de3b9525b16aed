use Rattle.cilk_replay.specs.Replays.{setting_of}
use Rattle.cilk_replay.proofs.Resumes.{resumes_asked}
use Rattle.cilk_replay.proofs.replay.Replay.resumes.Goals as goal

pub returns : goal.returns
returns c = let replay = c.laws.ensures in resumes_asked (setting_of c.args.self.now replay.0) replay.1
