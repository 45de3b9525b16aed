use Rattle.cilk_replay.proofs.Points.{asked_by_positions}
use Rattle.cilk_replay.proofs.laws.event_orders_are_asked_by_positions.Goals as goal

pub returns : goal.returns
returns c = asked_by_positions
