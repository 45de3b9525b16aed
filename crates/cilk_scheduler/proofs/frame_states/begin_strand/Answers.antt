use Rattle.cilk_scheduler.specs.FrameStates.{stranded}
use Rattle.cilk_scheduler.proofs.Changing.{changed_at}
use Rattle.cilk_scheduler.proofs.frame_states.begin_strand.Goals as goal

pub returns : goal.returns
returns c = changed_at (stranded) c.args.frames.now.items c.args.frame c.index_mut.result.now c.index_mut.ensures.value c.requires.here
