use Rattle.std.proofs.Common.{length}
use Rattle.std.specs.Prelude.{map}
use Rattle.cilk_parser.specs.ScriptChoices.{choices_left}
use Rattle.cilk_schedule.specs.Played.{IsUnstopped}
use Rattle.cilk_schedule.specs.Playing.{Leads, task_of, tasks_of}
use Rattle.cilk_schedule.proofs.player.make_all.Given as goal

abbrev pub invariant-choices : goal.invariant-choices
invariant-choices l = record {
  going : IsUnstopped l.machine;
  led : Leads l.workers (tasks_of l.steps) l.fn.machine (map task_of (choices_left l.choices)) l.machine;
}

abbrev pub decreases-choices : goal.decreases-choices
decreases-choices l = length (choices_left l.choices)
