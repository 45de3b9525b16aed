use Rattle.std.proofs.Common.{◌≡◌, ◌<◌, List, ◌∷◌, length}
use Rattle.cilk_syntax.specs.Expected.{Symbol, Operand, Tail, Anew, MoreArguments, run}
use Rattle.cilk_syntax.specs.Grammar.{SpellsSome}
use Rattle.cilk_syntax.specs.Trees.{arguments_of}
use Rattle.cilk_parser.proofs.calls.listed.Given as goal

abbrev pub invariant-each : goal.invariant-each
invariant-each l = record {
  tree : SpellsSome (arguments_of l.list.items) l.tokens l.rest;
  shorter : length l.rest < length l.tokens;
  reads : (stack : List Symbol) → run l.tokens (Operand l.depth ∷ Tail l.depth ∷ Anew ∷ MoreArguments l.depth ∷ stack) 0 ≡ run l.rest (MoreArguments l.depth ∷ stack) 0;
}

abbrev pub decreases-each : goal.decreases-each
decreases-each l = length l.rest
