-- The signatures so far, and those that are left.
use Rattle.std.proofs.Common.{◌≡◌, ◌++◌, drop}
use Rattle.cilk_syntax.specs.Trees.{items_of}
use Rattle.cilk_names.specs.Contexts.{signatures_of}
use Rattle.cilk_names.proofs.headings.signatures_of.Given as goal

abbrev pub invariant-each : goal.invariant-each
invariant-each l = l.signatures.items ++ signatures_of l.text (items_of (drop l.item-index l.items)) ≡ signatures_of l.text (items_of l.items)
