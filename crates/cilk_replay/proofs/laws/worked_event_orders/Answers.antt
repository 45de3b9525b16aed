use Rattle.cilk_replay.proofs.Worked.{worked_event_orders as law}
use Rattle.cilk_replay.proofs.laws.worked_event_orders.Goals as goal

pub returns : goal.returns
returns c = law
