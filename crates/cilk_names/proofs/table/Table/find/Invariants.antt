-- The scopes that are left decide.
use Rattle.std.proofs.Common.{◌≡◌, ◌≤◌, length, map, take}
use Rattle.cilk_names.specs.Names.{found_in}
use Rattle.cilk_names.specs.Tables.{scope_of}
use Rattle.cilk_names.proofs.table.Table.find.Given as goal

abbrev pub invariant-scopes : goal.invariant-scopes
invariant-scopes l = record {
  within : l.depth ≤ length l.self.outer.items;
  rest : found_in (map scope_of l.self.outer.items) l.name ≡ found_in (map scope_of (take l.depth l.self.outer.items)) l.name;
}

abbrev pub decreases-scopes : goal.decreases-scopes
decreases-scopes l = l.depth
