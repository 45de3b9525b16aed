use Rattle.std.proofs.Common.{◌≡◌, ◌-◌, ◌≤◌}
use Rattle.cilk_schedule.specs.Sound.{Runs}
use Rattle.cilk_schedule.specs.Stretches.{GoesAlong}
use Rattle.cilk_schedule.proofs.stretch.along.Given as goal

abbrev pub invariant-events : goal.invariant-events
invariant-events l = record {
  runs : Runs l.code l.input l.scheduler;
  few : l.made ≤ l.most;
  stopped : l.scheduler.stopped ≡ l.fn.scheduler.stopped;
  outcome : l.scheduler.outcome ≡ l.fn.scheduler.outcome;
  along : GoesAlong l.code l.input l.worker l.made l.fn.scheduler l.scheduler;
}

abbrev pub decreases-events : goal.decreases-events
decreases-events l = l.most - l.made
