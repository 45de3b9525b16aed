use Rattle.cilk_determinacy.proofs.Frames.{frames_counted}
use Rattle.cilk_determinacy.proofs.events.frames_begin_in_order.Goals as goal

pub returns : goal.returns
returns c = frames_counted
