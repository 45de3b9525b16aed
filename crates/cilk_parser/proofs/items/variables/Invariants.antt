use Rattle.std.proofs.Common.{◌≡◌, ◌≤◌, List, ◌∷◌, length}
use Rattle.cilk_syntax.specs.Expected.{Symbol, Initial, Variables, run}
use Rattle.cilk_syntax.specs.Grammar.{SpellsVariables}
use Rattle.cilk_parser.proofs.items.variables.Given as goal

abbrev pub invariant-each : goal.invariant-each
invariant-each l = record {
  tree : SpellsVariables l.fn.first l.list.items l.tokens l.rest;
  shorter : length l.rest ≤ length l.tokens;
  reads : (stack : List Symbol) → run l.tokens (Initial ∷ Variables ∷ stack) 0 ≡ run l.rest (Variables ∷ stack) 0;
}

abbrev pub decreases-each : goal.decreases-each
decreases-each l = length l.rest
