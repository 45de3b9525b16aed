-- The names in a table, as the definitions see them.
use Rattle.std.specs.Prelude.{ℕ, List, map, bytes_eq}
use Rattle.std.specs.Borrow.{Bor}
use Rattle.std.specs.HashMap as hash
use Rattle.std.specs.HashMap.{HashMap}
use Rattle.cilk_names.specs.declared.table.Binding.{Binding}
use Rattle.cilk_names.specs.declared.table.Table.{Table}
use Rattle.cilk_names.specs.Names.{Names, Scope}

-- a hash map as a scope
abbrev pub scope_of : {S : Type 0} → HashMap (Bor (List ℕ)) Binding S → Scope
scope_of m q = hash.get_by (λ k. bytes_eq q k.now) m

-- the names of a table
abbrev pub names_of : Table → Names
names_of t = record { text = t.text.now; signatures = t.signatures.now; inner = scope_of t.inner; outer = map scope_of t.outer.items; level = t.level }
