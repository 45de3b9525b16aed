use Rattle.std.proofs.Common.{◌≡◌, ◌≤◌, true, length}
use Rattle.cilk_syntax.specs.Lexing.{value_from, value_of, all_digits}
use Rattle.cilk_syntax.proofs.lexer.value_of.Given as goal

abbrev pub invariant-each : goal.invariant-each
invariant-each l = record {
  value : value_from l.value l.rest ≡ value_of l.digits;
  digits : all_digits l.rest ≡ true;
  small : l.value ≤ 9223372036854775808;
}

abbrev pub decreases-each : goal.decreases-each
decreases-each l = length l.rest
