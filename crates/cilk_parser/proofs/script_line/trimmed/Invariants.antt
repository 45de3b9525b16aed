use Rattle.std.proofs.Common.{◌≡◌, length}
use Rattle.cilk_parser.specs.Scripts.{trimmed}
use Rattle.cilk_parser.proofs.script_line.trimmed.Given as goal

abbrev pub invariant-each : goal.invariant-each
invariant-each l = trimmed l.rest ≡ trimmed l.line

abbrev pub decreases-each : goal.decreases-each
decreases-each l = length l.rest
