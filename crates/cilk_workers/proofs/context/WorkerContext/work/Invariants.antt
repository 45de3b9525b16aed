use Rattle.cilk_workers.specs.Activities.{IsActivity}
use Rattle.cilk_workers.specs.Keys.{AreKeys}
use Rattle.cilk_workers.proofs.context.WorkerContext.work.Given as goal

abbrev pub invariant-loop : goal.invariant-loop
invariant-loop g l = IsActivity l.self.shared.now l.hand × AreKeys l.self.locks.now.items l.tools.keys.items
