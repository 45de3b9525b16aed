use Rattle.std.proofs.Common.{◌≡◌}
use Rattle.std.specs.Prelude.{⊤}
use Rattle.cilk_replay.specs.Replays.{ReplayValue}
use Rattle.cilk_replay.specs.declared.chain.Task.{Task}
use Rattle.cilk_worker_tests.proofs.works.tried_on.Given as goal

abbrev pub ghosts-taken : goal.ghosts-taken
ghosts-taken g a = record { run = a.shared.now.run; replay = λ (c : ReplayValue). c ≡ a.shared.now.replay; taken = λ (t : Task). ⊤ }

abbrev pub ghosts-stolen : goal.ghosts-stolen
ghosts-stolen g a = record { run = a.shared.now.run; replay = λ (c : ReplayValue). c ≡ a.shared.now.replay; taken = λ (t : Task). ⊤ }
