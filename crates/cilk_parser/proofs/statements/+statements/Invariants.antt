use Rattle.std.proofs.Common.{◌≡◌, ◌+◌, ◌≤◌, List, ◌∷◌, length, ◌*◌}
use Rattle.cilk_syntax.specs.Expected.{Symbol, Statements, run}
use Rattle.cilk_syntax.specs.Grammar.{SpellsAll}
use Rattle.cilk_syntax.specs.Trees.{statements}
use Rattle.cilk_parser.proofs.statements.+statements.Given as goal

abbrev pub decreases-statement : goal.decreases-statement
decreases-statement l = 4 * length l.tokens.now + 1

abbrev pub decreases-body : goal.decreases-body
decreases-body l = 4 * length l.tokens.now + 2

abbrev pub decreases-for_loop : goal.decreases-for_loop
decreases-for_loop l = 4 * length l.tokens.now

abbrev pub decreases-while_loop : goal.decreases-while_loop
decreases-while_loop l = 4 * length l.tokens.now

abbrev pub decreases-parallel_loop : goal.decreases-parallel_loop
decreases-parallel_loop l = 4 * length l.tokens.now

abbrev pub decreases-choice : goal.decreases-choice
decreases-choice l = 4 * length l.tokens.now

abbrev pub decreases-statements : goal.decreases-statements
decreases-statements l = 4 * length l.tokens.now + 2

abbrev pub invariant-statements-each : goal.invariant-statements-each
invariant-statements-each l = record {
  tree : SpellsAll (statements l.list.items) l.tokens l.rest;
  shorter : length l.rest ≤ length l.tokens;
  reads : (stack : List Symbol) → run l.tokens (Statements l.depth ∷ stack) 0 ≡ run l.rest (Statements l.depth ∷ stack) 0;
}

abbrev pub decreases-statements-each : goal.decreases-statements-each
decreases-statements-each l = length l.rest
