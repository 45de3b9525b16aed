use Rattle.std.proofs.Common.{◌≡◌, ◌+◌, ◌<◌, ◌≤◌, List, ◌∷◌, length, ◌-◌, ◌*◌}
use Rattle.cilk_syntax.specs.Expected.{Symbol, Operand, Tail, run}
use Rattle.cilk_syntax.specs.Grammar.{SpellsExpr, level_in}
use Rattle.cilk_syntax.specs.Stops.{NoOperator}
use Rattle.cilk_syntax.specs.Trees.{expression}
use Rattle.cilk_parser.proofs.expressions.+expressions.Given as goal

abbrev pub decreases-at_level : goal.decreases-at_level
decreases-at_level l = 16 * length l.tokens.now + (8 - l.wanted)

abbrev pub decreases-nested : goal.decreases-nested
decreases-nested l = 16 * length l.tokens.now + 9

abbrev pub decreases-after_name : goal.decreases-after_name
decreases-after_name l = 16 * length l.tokens.now

abbrev pub decreases-signed : goal.decreases-signed
decreases-signed l = 16 * length l.tokens.now

abbrev pub decreases-group : goal.decreases-group
decreases-group l = 16 * length l.tokens.now + 10

abbrev pub decreases-input : goal.decreases-input
decreases-input l = 16 * length l.tokens.now + 10

abbrev pub decreases-operand : goal.decreases-operand
decreases-operand l = 16 * length l.tokens.now + 1

abbrev pub invariant-at_level-each : goal.invariant-at_level-each
invariant-at_level-each l = record {
  tree : SpellsExpr (expression l.left.value) l.tokens l.rest;
  tight : l.wanted ≤ level_in (expression l.left.value);
  ends : NoOperator (l.wanted + 1) l.rest;
  shorter : length l.rest < length l.tokens;
  lower : l.wanted < 6;
  few : l.count ≤ 256;
  reads : (stack : List Symbol) → run l.tokens (Operand l.depth ∷ Tail l.depth ∷ stack) l.operators ≡ run l.rest (Tail l.depth ∷ stack) l.count;
}

abbrev pub decreases-at_level-each : goal.decreases-at_level-each
decreases-at_level-each l = length l.rest
