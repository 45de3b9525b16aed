use Rattle.cilk_commands.proofs.Replying.{front_of}
use Rattle.cilk_commands.proofs.serving.tell.Goals as goal

pub returns : goal.returns
returns g c = front_of c.send.result _ _ _ c.send.ensures.all c.send.ensures.part
