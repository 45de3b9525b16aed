use Rattle.cilk_scheduler.proofs.GoneOn.{gone_on_behind}
use Rattle.cilk_scheduler.proofs.orders.frames_go_on_behind.Goals as goal

pub returns : goal.returns
returns c = gone_on_behind
