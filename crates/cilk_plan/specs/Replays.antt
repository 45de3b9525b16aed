-- The replay of an accepted program's plan on an input.
use Rattle.std.specs.Prelude.{◌≡◌, ℤ, List}
use Rattle.cilk_shared.specs.Values.{YardValue}
use Rattle.cilk_replay.specs.Replays.{ReplayValue}
use Rattle.cilk_checker.specs.Determinate.{AcceptedRun}

-- a replay of the accepted run's program, along the yard's event order on these inputs
pub record IsReplayOn (a : AcceptedRun) (y : YardValue) (input : List ℤ) (c : ReplayValue) : Type 0 where
  pub yard : c.yard ≡ y
  pub program : c.program ≡ a.program
  pub own : c.own ≡ a.input
  pub inputs : c.inputs ≡ input
