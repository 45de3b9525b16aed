use Rattle.cilk_replay.proofs.AskedEventOrders.{departs_nowhere}
use Rattle.cilk_replay.proofs.laws.inputs_that_depart_nowhere.Goals as goal

pub returns : goal.returns
returns c = departs_nowhere
