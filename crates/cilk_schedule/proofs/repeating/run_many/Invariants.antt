use Rattle.std.proofs.Common.{◌≡◌, ◌-◌, ◌≤◌}
use Rattle.cilk_schedule.specs.Repeating.{RunsOn}
use Rattle.cilk_schedule.specs.Sound.{Runs}
use Rattle.cilk_schedule.proofs.repeating.run_many.Given as goal

abbrev pub invariant-choices : goal.invariant-choices
invariant-choices l = record {
  runs : Runs l.code l.input l.scheduler;
  few : l.made ≤ l.most;
  stopped : l.scheduler.stopped ≡ l.fn.scheduler.stopped;
  led : RunsOn l.code l.input l.worker l.made l.fn.scheduler l.scheduler;
}

abbrev pub decreases-choices : goal.decreases-choices
decreases-choices l = l.most - l.made
