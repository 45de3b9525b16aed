use Rattle.std.proofs.Common.{◌≡◌, ◌<◌, List, ◌∷◌, length}
use Rattle.cilk_syntax.specs.Expected.{Symbol, Parameter, MoreParameters, run}
use Rattle.cilk_syntax.specs.Grammar.{SpellsListed}
use Rattle.cilk_parser.proofs.parameters.listed.Given as goal

abbrev pub invariant-each : goal.invariant-each
invariant-each l = record {
  tree : SpellsListed l.list.items l.tokens l.rest;
  shorter : length l.rest < length l.tokens;
  reads : (stack : List Symbol) → run l.tokens (Parameter ∷ MoreParameters ∷ stack) 0 ≡ run l.rest (MoreParameters ∷ stack) 0;
}

abbrev pub decreases-each : goal.decreases-each
decreases-each l = length l.rest
