use Rattle.std.proofs.Common.{ℕ, ◌≤◌, ℤ, List, ◌++◌, length}
use Rattle.cilk_parser.specs.declared.fault.SyntaxErrorKind.{SyntaxErrorKind}
use Rattle.cilk_parser.specs.Inputs.{Holds, Fails}
use Rattle.cilk_parser.proofs.input.parse_input.Given as goal

abbrev pub invariant-each : goal.invariant-each
invariant-each l = record {
  numbers : (ns : List ℤ) → Holds l.rest ns → Holds l.text (l.numbers ++ ns);
  fault : (n : SyntaxErrorKind) (place : ℕ) → Fails (length l.text) (length l.numbers) l.rest n place → Fails (length l.text) 0 l.text n place;
  few : length l.numbers ≤ 65536;
  shorter : length l.rest ≤ length l.text;
}

abbrev pub decreases-each : goal.decreases-each
decreases-each l = length l.rest
