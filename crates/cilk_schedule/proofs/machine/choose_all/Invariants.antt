use Rattle.std.proofs.Common.{take}
use Rattle.cilk_schedule.specs.Played.{IsUnstopped, LeadOn}
use Rattle.cilk_schedule.proofs.machine.choose_all.Given as goal

abbrev pub invariant-each : goal.invariant-each
invariant-each l = record {
  going : IsUnstopped l.machine;
  led : LeadOn (take l.choice-index l.choices) l.fn.machine l.machine;
}
