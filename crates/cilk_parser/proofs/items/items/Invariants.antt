use Rattle.std.proofs.Common.{◌≡◌, [], ◌∷◌, length}
use Rattle.cilk_syntax.specs.Expected.{Items, run}
use Rattle.cilk_syntax.specs.Grammar.{SpellsItems}
use Rattle.cilk_syntax.specs.Trees.{items_of}
use Rattle.cilk_parser.proofs.items.items.Given as goal

abbrev pub invariant-each : goal.invariant-each
invariant-each l = record {
  tree : SpellsItems (items_of l.list.items) l.tokens l.rest;
  reads : run l.tokens (Items ∷ []) 0 ≡ run l.rest (Items ∷ []) 0;
}

abbrev pub decreases-each : goal.decreases-each
decreases-each l = length l.rest
