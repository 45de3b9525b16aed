-- The name of a run.
use Rattle.std.specs.Prelude.{◌≡◌}
use Rattle.cilk_workers.specs.Rows.{RunValue}
use Rattle.cilk_replay.specs.Replays.{ReplayValue}
use Rattle.cilk_replay.specs.declared.chain.Task.{Task}
use Rattle.cilk_workers.specs.Shared.{SharedValue}
use Rattle.cilk_workers.specs.Racks.{MayPick}

-- it names the run that the workers share and that run's only replay, and its workers may take each
-- other's tasks
pub record IsName (named : RunValue) (is : ReplayValue → Type 0) (taken : Task → Type 0) (y : SharedValue) : Type 0 where
  pub run : named ≡ y.run
  pub replay : is y.replay
  pub only : (c : ReplayValue) → is c → c ≡ y.replay
  pub may : MayPick taken
