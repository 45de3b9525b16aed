use Rattle.std.proofs.Common.{◌≡◌}
use Rattle.std.specs.Prelude.{⊤}
use Rattle.cilk_replay.specs.Replays.{ReplayValue}
use Rattle.cilk_replay.specs.declared.chain.Task.{Task}
use Rattle.cilk_threads.proofs.run.run.Given as goal

abbrev pub ghosts-run_as : goal.ghosts-run_as
ghosts-run_as g a = record { run = a.shared.now.run; replay = λ (c : ReplayValue). c ≡ a.shared.now.replay; taken = λ (t : Task). ⊤ }
