use Rattle.std.proofs.Common.{◌-◌, ◌+◌}
use Rattle.cilk_schedule.specs.Played.{IsUnstopped}
use Rattle.cilk_schedule.specs.Playing.{Leads, turns}
use Rattle.cilk_schedule.proofs.player.round.Given as goal

abbrev pub invariant-turns : goal.invariant-turns
invariant-turns l = record {
  going : IsUnstopped l.machine;
  led : Leads l.workers (turns 1 l.workers) l.fn.machine (turns (l.number + 1) (l.workers - l.number)) l.machine;
}
