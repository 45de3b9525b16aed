use Rattle.std.proofs.Common.{ℕ, ◌≤◌, List, ◌++◌, length}
use Rattle.cilk_syntax.specs.declared.token.Token.{Token}
use Rattle.cilk_syntax.specs.declared.lexer.LexErrorKind.{LexErrorKind}
use Rattle.cilk_syntax.specs.Lexing.{Lexes, Faults, AreTokens, IsFirstFault}
use Rattle.cilk_syntax.proofs.lexer.lex.Given as goal

abbrev pub invariant-each : goal.invariant-each
invariant-each l = record {
  tokens : (ts : List Token) → Lexes (length l.text) l.fresh l.rest ts → AreTokens l.text (l.tokens.items ++ ts);
  fault : (bad : LexErrorKind) (place : ℕ) → Faults (length l.text) l.fresh l.rest bad place → IsFirstFault l.text bad place;
  shorter : length l.rest ≤ length l.text;
}

abbrev pub decreases-each : goal.decreases-each
decreases-each l = length l.rest
