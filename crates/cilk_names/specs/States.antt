-- The state of the code, as the definitions see it.
use Rattle.std.specs.Prelude.{◌≡◌, ℕ, List, length, map, None}
use Rattle.cilk_names.specs.Tables.{names_of}
use Rattle.cilk_names.specs.declared.scene.Resolver.{Resolver}
use Rattle.cilk_names.specs.declared.items.Pass.{Pass}
use Rattle.cilk_names.specs.Contexts.{Context}
use Rattle.cilk_names.specs.Globals.{Known, start, behind_items}
use Rattle.cilk_names.specs.Faults.{earliest}
use Rattle.cilk_names.specs.Misnamings.{items_faults}
use Rattle.cilk_names.specs.Pass.{items_functions, items_loops}
use Rattle.cilk_syntax.specs.Trees.{Item}
use Rattle.cilk_program.specs.Programs.{function, loop}

-- the context at a place of a body
abbrev pub context_of : Resolver → Context
context_of s = record { names = names_of s.table; frame = s.frame; given = s.given.items; own = s.own.items; reducers = s.reducers; loops = length s.loops.items }

-- the context between items
abbrev pub known_of : Pass → Known
known_of p = record {
  names = names_of p.scene.table;
  openings = p.openings;
  shared = p.shared.items;
  functions = length p.functions.items;
  reducers = p.scene.reducers;
  loops = length p.scene.loops.items;
}

-- the result of the pass over all items
pub record Comes (p : Pass) (text : List ℕ) (items : List Item) : Type 0 where
  pub first : p.scene.first ≡ earliest None (items_faults (start text items) items)
  pub known : known_of p ≡ behind_items (start text items) items
  pub functions : map function p.functions.items ≡ items_functions (start text items) items
  pub loops : map loop p.scene.loops.items ≡ items_loops (start text items) items
