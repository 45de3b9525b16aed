use Rattle.std.proofs.Common.{refl}
use Rattle.cilk_scheduler.specs.declared.frame_state.Worker.{Worker}
use Rattle.cilk_scheduler.proofs.Parts.{altered_at}
use Rattle.cilk_scheduler.proofs.Placed.{get_there}
use Rattle.cilk_schedule.proofs.thieves.withdraw_at.Goals as goal

pub returns-clause-less : goal.returns-clause-less
returns-clause-less c =
    let u = c.index_mut.result.now in
    let without : Worker = record u { offered = c.remove.new.self } in
    record {
      owner = u;
      without = without;
      owns = get_there c.args.workers.now.items c.args.worker u c.index_mut.ensures.value c.requires.here;
      same = refl;
      items = c.remove.ensures;
      workers_are = altered_at (λ _. without) c.args.workers.now.items c.args.worker u c.index_mut.ensures.value c.requires.here;
    }
