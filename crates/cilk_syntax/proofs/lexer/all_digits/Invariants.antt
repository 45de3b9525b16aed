use Rattle.std.proofs.Common.{◌≡◌, length}
use Rattle.cilk_syntax.specs.Lexing.{all_digits}
use Rattle.cilk_syntax.proofs.lexer.all_digits.Given as goal

abbrev pub invariant-each : goal.invariant-each
invariant-each l = all_digits l.rest ≡ all_digits l.bytes

abbrev pub decreases-each : goal.decreases-each
decreases-each l = length l.rest
