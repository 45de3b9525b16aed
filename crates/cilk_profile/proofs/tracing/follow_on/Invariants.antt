use Rattle.cilk_schedule.specs.Played.{IsUnstopped}
use Rattle.cilk_profile.proofs.tracing.follow_on.Given as goal

abbrev pub invariant-choices : goal.invariant-choices
invariant-choices l = IsUnstopped l.machine
