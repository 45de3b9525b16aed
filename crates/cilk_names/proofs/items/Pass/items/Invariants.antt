-- The items so far, and those that are left.
use Rattle.std.proofs.Common.{◌≡◌, ◌++◌, map, drop}
use Rattle.cilk_syntax.specs.Trees.{items_of}
use Rattle.cilk_program.specs.Programs.{function, loop}
use Rattle.cilk_names.specs.Globals.{behind_items}
use Rattle.cilk_names.specs.Faults.{earliest}
use Rattle.cilk_names.specs.Misnamings.{items_faults}
use Rattle.cilk_names.specs.Pass.{items_functions, items_loops}
use Rattle.cilk_names.specs.States.{known_of}
use Rattle.cilk_names.proofs.items.Pass.items.Given as goal

abbrev pub invariant-each : goal.invariant-each
invariant-each l = record {
  known : behind_items (known_of l.self) (items_of (drop l.item-index l.items)) ≡ behind_items (known_of l.initial.self) (items_of l.items);
  faults : earliest l.self.scene.first (items_faults (known_of l.self) (items_of (drop l.item-index l.items))) ≡ earliest l.initial.self.scene.first (items_faults (known_of l.initial.self) (items_of l.items));
  functions : map function l.self.functions.items ++ items_functions (known_of l.self) (items_of (drop l.item-index l.items)) ≡ map function l.initial.self.functions.items ++ items_functions (known_of l.initial.self) (items_of l.items);
  loops : map loop l.self.scene.loops.items ++ items_loops (known_of l.self) (items_of (drop l.item-index l.items)) ≡ map loop l.initial.self.scene.loops.items ++ items_loops (known_of l.initial.self) (items_of l.items);
}
