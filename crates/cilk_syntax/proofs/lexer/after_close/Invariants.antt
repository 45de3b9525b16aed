use Rattle.std.proofs.Common.{◌≡◌, ◌≤◌, length}
use Rattle.cilk_syntax.specs.Lexing.{after_close}
use Rattle.cilk_syntax.proofs.lexer.after_close.Given as goal

abbrev pub invariant-each : goal.invariant-each
invariant-each l = record {
  close : after_close l.rest ≡ after_close l.bytes;
  shorter : length l.rest ≤ length l.bytes;
}

abbrev pub decreases-each : goal.decreases-each
decreases-each l = length l.rest
