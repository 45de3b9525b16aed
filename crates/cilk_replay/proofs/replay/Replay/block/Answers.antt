use Rattle.cilk_replay.proofs.Seeing.{block_in}
use Rattle.cilk_replay.proofs.replay.Replay.block.Goals as goal

pub returns : goal.returns
returns c = block_in c.args.self.now c.args.frame c.planned-frame.result c.planned-frame.ensures
