use Rattle.std.proofs.Common.{◌≡◌, ◌+◌, ◌≤◌, ◌++◌, List, drop}
use Rattle.cilk_parser.specs.declared.script_choices.TheConstants.{MAX_CHOICES}
use Rattle.cilk_schedule.specs.Played.{IsUnstopped}
use Rattle.cilk_schedule.specs.Strict.{HasPlayed, LineTask, tasks_within}
use Rattle.cilk_schedule.proofs.counting.make_all.Given as goal

abbrev pub invariant-steps : goal.invariant-steps
invariant-steps l = record {
  going : IsUnstopped l.machine;
  few : l.skips.count + l.room ≤ MAX_CHOICES;
  made : (done : List LineTask) × (tasks_within MAX_CHOICES l.steps ≡ done ++ tasks_within l.room (drop l.step-index l.steps)) × HasPlayed l.workers l.fn.machine done l.machine l.skips;
}
