use Rattle.cilk_replay.specs.Replays.{setting_of}
use Rattle.cilk_replay.proofs.Awaited.{replay_awaits}
use Rattle.cilk_replay.proofs.replay.Replay.awaits.Goals as goal

pub returns : goal.returns
returns c = let replay = c.laws.ensures in replay_awaits (setting_of c.args.self.now replay.0) replay.1
