use Rattle.cilk_scheduler.specs.FrameStates.{robbed}
use Rattle.cilk_scheduler.proofs.Changing.{changed_at}
use Rattle.cilk_scheduler.proofs.frame_states.rob.Goals as goal

pub returns : goal.returns
returns c = changed_at (robbed) c.args.frames.now.items c.args.frame c.index_mut.result.now c.index_mut.ensures.value c.requires
