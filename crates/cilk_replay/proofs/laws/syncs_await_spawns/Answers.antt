use Rattle.cilk_replay.proofs.Awaited.{serial_awaits}
use Rattle.cilk_replay.proofs.laws.syncs_await_spawns.Goals as goal

pub returns : goal.returns
returns c = serial_awaits
