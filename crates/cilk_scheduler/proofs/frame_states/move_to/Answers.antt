use Rattle.cilk_scheduler.specs.FrameStates.{moved_to}
use Rattle.cilk_scheduler.proofs.Changing.{changed_at}
use Rattle.cilk_scheduler.proofs.frame_states.move_to.Goals as goal

pub returns : goal.returns
returns c = changed_at (moved_to c.args.status) c.args.frames.now.items c.args.frame c.index_mut.result.now c.index_mut.ensures.value c.requires
