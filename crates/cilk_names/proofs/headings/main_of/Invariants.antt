-- The items that are left decide.
use Rattle.std.proofs.Common.{◌≡◌, ◌≤◌, drop}
use Rattle.cilk_syntax.specs.Trees.{items_of}
use Rattle.cilk_names.specs.Globals.{main_of}
use Rattle.cilk_names.proofs.headings.main_of.Given as goal

abbrev pub invariant-each : goal.invariant-each
invariant-each l = record {
  count : l.count ≤ l.item-index;
  rest : main_of l.text l.count (items_of (drop l.item-index l.items)) ≡ main_of l.text 0 (items_of l.items);
}
