use Rattle.std.proofs.Common.{length}
use Rattle.cilk_parser.specs.ScriptChoices.{choices_left}
use Rattle.cilk_schedule.specs.Played.{IsUnstopped}
use Rattle.cilk_races.proofs.plays.Player.follow.Given as goal

abbrev pub invariant-choices : goal.invariant-choices
invariant-choices l = IsUnstopped l.self.machine

abbrev pub decreases-choices : goal.decreases-choices
decreases-choices l = length (choices_left l.choices)
