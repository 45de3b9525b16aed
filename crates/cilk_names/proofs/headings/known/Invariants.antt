-- The functions that are known so far, and those that are left.
use Rattle.std.proofs.Common.{◌≡◌, ℕ, ◌≤◌, List, [], drop}
use Rattle.std.specs.Option.{option_or}
use Rattle.cilk_syntax.specs.Trees.{items_of}
use Rattle.cilk_names.specs.Contexts.{functions_known}
use Rattle.cilk_names.specs.Tables.{names_of, scope_of}
use Rattle.cilk_names.proofs.headings.known.Given as goal

abbrev pub invariant-each : goal.invariant-each
invariant-each l = record {
  count : l.count ≤ l.item-index;
  rest : names_of l.table ≡ record { text = l.text; signatures = l.signatures; inner = scope_of l.table.inner; outer = []; level = 0 };
  known : (q : List ℕ) → option_or (scope_of l.table.inner q) (functions_known l.text l.count (items_of (drop l.item-index l.items)) q) ≡ functions_known l.text 0 (items_of l.items) q;
}
