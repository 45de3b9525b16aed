use Rattle.std.proofs.Common.{◌≡◌, ◌+◌, ◌≤◌, length}
use Rattle.cilk_syntax.specs.Lexing.{behind, front_of}
use Rattle.cilk_syntax.proofs.lexer.split.Given as goal

abbrev pub invariant-each : goal.invariant-each
invariant-each l = record {
  rest : behind l.class l.rest ≡ behind l.class l.bytes;
  front : length l.bytes + length (front_of l.class l.rest) ≡ length l.rest + length (front_of l.class l.bytes);
  shorter : length l.rest ≤ length l.bytes;
}

abbrev pub decreases-each : goal.decreases-each
decreases-each l = length l.rest
