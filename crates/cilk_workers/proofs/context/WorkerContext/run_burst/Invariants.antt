use Rattle.std.specs.Prelude.{◌≡◌}
use Rattle.cilk_workers.specs.Bursts.{KeepsTasks}
use Rattle.cilk_workers.specs.Keys.{AreKeys}
use Rattle.cilk_workers.specs.Shared.{event_order_in}
use Rattle.cilk_workers.specs.Turns.{Works}
use Rattle.cilk_workers.proofs.context.WorkerContext.run_burst.Given as goal

abbrev pub invariant-each : goal.invariant-each
invariant-each g l =
    let before = l.fn.work.piece in
    let now = l.work.piece in
    record {
      works : Works l.self.shared.now l.work;
      keys : AreKeys l.self.locks.now.items l.tools.keys.items;
      untold : l.tools.keys.items ≡ l.fn.tools.keys.items;
      idle : l.tools.pickers.items ≡ l.fn.tools.pickers.items;
      kept : KeepsTasks (event_order_in l.self.shared.now) before.upto l.fn.tools.rack now.upto l.tools.rack;
    }
