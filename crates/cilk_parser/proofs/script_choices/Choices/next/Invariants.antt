use Rattle.std.proofs.Common.{◌≡◌, length}
use Rattle.cilk_parser.specs.ScriptChoices.{choices_left}
use Rattle.cilk_parser.proofs.script_choices.Choices.next.Given as goal

abbrev pub invariant-steps : goal.invariant-steps
invariant-steps l = choices_left l.self ≡ choices_left l.fn.self

abbrev pub decreases-steps : goal.decreases-steps
decreases-steps l = length l.self.steps.now
