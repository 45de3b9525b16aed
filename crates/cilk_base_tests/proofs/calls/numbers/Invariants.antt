use Rattle.std.proofs.Common.{◌≡◌, None}
use Rattle.cilk_schedule.specs.Sound.{Runs}
use Rattle.cilk_base_tests.proofs.calls.numbers.Given as goal

abbrev pub invariant-choices : goal.invariant-choices
invariant-choices l = l.machine.scheduler.stopped ≡ None → Runs l.machine.code.now l.machine.input.now l.machine.scheduler
