-- The statements so far, and those that are left.
use Rattle.std.proofs.Common.{◌≡◌, ◌++◌, map, drop}
use Rattle.cilk_syntax.specs.Trees as trees
use Rattle.cilk_program.specs.Programs.{loop}
use Rattle.cilk_names.specs.Contexts.{behind_row}
use Rattle.cilk_names.specs.Faults.{earliest}
use Rattle.cilk_names.specs.Misnamings.{row_faults}
use Rattle.cilk_names.specs.Pass.{row_of, row_loops}
use Rattle.cilk_names.specs.States.{context_of}
use Rattle.cilk_names.proofs.Blocks.{followed}
use Rattle.cilk_names.proofs.scene.Resolver.+statements.Given as goal

abbrev pub invariant-row-each : goal.invariant-row-each
invariant-row-each l = record {
  context : behind_row (context_of l.self) (trees.statements (drop l.tree-index l.list)) ≡ behind_row (context_of l.initial.self) (trees.statements l.list);
  faults : earliest l.self.first (row_faults (context_of l.self) (trees.statements (drop l.tree-index l.list))) ≡ earliest l.initial.self.first (row_faults (context_of l.initial.self) (trees.statements l.list));
  loops : map loop l.self.loops.items ++ row_loops (context_of l.self) (trees.statements (drop l.tree-index l.list)) ≡ map loop l.initial.self.loops.items ++ row_loops (context_of l.initial.self) (trees.statements l.list);
  value : followed l.row.items (row_of (context_of l.self) (trees.statements (drop l.tree-index l.list))) ≡ row_of (context_of l.initial.self) (trees.statements l.list);
}
