use Rattle.cilk_replay.proofs.Seeing.{lies_at}
use Rattle.cilk_replay.proofs.replay.Replay.planned.Goals as goal

pub returns : goal.returns
returns c =
    let i = c.self.inside in
    lies_at i.model c.args.self.now i.frames.now c.args.frame c.saturating_sub.result _ c.frame_at.result c.self.view_is c.self.invariant.5 c.saturating_sub.ensures c.frame_at.ensures
