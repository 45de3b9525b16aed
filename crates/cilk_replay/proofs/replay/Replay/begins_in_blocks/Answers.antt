use Rattle.cilk_replay.specs.Replays.{setting_of}
use Rattle.cilk_replay.proofs.Starts.{replay_begins}
use Rattle.cilk_replay.proofs.replay.Replay.begins_in_blocks.Goals as goal

pub returns : goal.returns
returns c = let replay = c.laws.ensures in replay_begins (setting_of c.args.self.now replay.0) replay.1
