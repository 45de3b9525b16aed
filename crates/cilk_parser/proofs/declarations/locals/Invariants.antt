use Rattle.std.proofs.Common.{◌≡◌, ◌<◌, List, ◌∷◌, length}
use Rattle.cilk_syntax.specs.Expected.{Symbol, Named, LocalInitial, Locals, run}
use Rattle.cilk_syntax.specs.Grammar.{SpellsLocals}
use Rattle.cilk_syntax.specs.Trees.{locals_of}
use Rattle.cilk_parser.proofs.declarations.locals.Given as goal

abbrev pub invariant-each : goal.invariant-each
invariant-each l = record {
  tree : SpellsLocals (locals_of l.list.items) l.tokens l.rest;
  shorter : length l.rest < length l.tokens;
  reads : (stack : List Symbol) → run l.tokens (Named ∷ LocalInitial l.depth ∷ Locals l.depth ∷ stack) 0 ≡ run l.rest (Locals l.depth ∷ stack) 0;
}

abbrev pub decreases-each : goal.decreases-each
decreases-each l = length l.rest
