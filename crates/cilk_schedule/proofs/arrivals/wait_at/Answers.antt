use Rattle.std.proofs.Common.{refl}
use Rattle.cilk_schedule.proofs.Turns.{waits_runs}
use Rattle.cilk_schedule.proofs.arrivals.wait_at.Goals as goal

pub returns-clause-runs : goal.returns-clause-runs
returns-clause-runs c = λ code inputs t.
    waits_runs code inputs c.args.scheduler.now c.args.frame t c.requires.syncs c.bring_own.new.frames.items c.in_ok-_waits.ensures.frames _ c.wait.ensures refl refl refl refl
