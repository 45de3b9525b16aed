use Rattle.std.proofs.Common.{refl}
use Rattle.cilk_schedule.proofs.Keeping.{leads_chosen, refused_at}
use Rattle.cilk_schedule.proofs.Leading.{choices_reach}
use Rattle.cilk_schedule.proofs.player.choose.Goals as goal

pub returns-in-Ok-clause-made : goal.returns-in-Ok-clause-made
returns-in-Ok-clause-made g c = λ workers.
    let m = c.args.machine.now in
    let b = c.choose.new.scheduler in
    let e = c.in-Ok.ensures in
    leads_chosen workers m (record m { scheduler = b }) c.args.choice c.in-Ok._told refl refl
    (λ p is h. choices_reach m.code.now m.input.now m.scheduler b c.args.choice p is h c.in-Ok._told e.steps e.starts e.syncs e.ends e.thieves e.waits e.skips)

pub returns-in-Err-clause-fault : goal.returns-in-Err-clause-fault
returns-in-Err-clause-fault g c = λ workers.
    let m = c.args.machine.now in
    refused_at workers m (record m { scheduler = c.choose.new.scheduler }) c.args.choice c.in-Err.stop c.stopped.result (c.in-Err.ensures.faults c.requires.0) c.stopped.ensures
