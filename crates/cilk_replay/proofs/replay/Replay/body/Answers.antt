use Rattle.cilk_replay.proofs.Seeing.{body_in}
use Rattle.cilk_replay.proofs.replay.Replay.body.Goals as goal

pub returns : goal.returns
returns c = body_in c.args.self.now c.args.frame c.planned.result c.planned.ensures
