-- The context of a worker.
use Rattle.std.specs.Prelude.{◌≤◌, length}
use Rattle.cilk_workers.specs.Rows.{RunValue}
use Rattle.cilk_replay.specs.Replays.{ReplayValue}
use Rattle.cilk_replay.specs.declared.chain.Task.{Task}
use Rattle.cilk_workers.specs.declared.context.WorkerContext.{WorkerContext}
use Rattle.cilk_workers.specs.Names.{IsName}

module _ {N R G : Type 0} where
  -- the context belongs to the run that is named, and there is a shelf
  pub record IsWorkerContext (named : RunValue) (is : ReplayValue → Type 0) (taken : Task → Type 0) (s : WorkerContext N R G) : Type 0 where
    pub name : IsName named is taken s.shared.now
    pub shelves : 1 ≤ length s.locks.now.items
