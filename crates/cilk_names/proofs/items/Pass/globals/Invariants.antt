-- The variables so far, and those that are left.
use Rattle.std.proofs.Common.{◌≡◌, drop}
use Rattle.cilk_names.specs.Globals.{behind_line}
use Rattle.cilk_names.specs.Faults.{earliest}
use Rattle.cilk_names.specs.Misnamings.{line_faults}
use Rattle.cilk_names.specs.States.{known_of}
use Rattle.cilk_names.proofs.items.Pass.globals.Given as goal

abbrev pub invariant-each : goal.invariant-each
invariant-each l = record {
  known : behind_line (known_of l.self) (drop l.variable-index l.variables) ≡ behind_line (known_of l.initial.self) l.variables;
  faults : earliest l.self.scene.first (line_faults (known_of l.self) (drop l.variable-index l.variables)) ≡ earliest l.initial.self.scene.first (line_faults (known_of l.initial.self) l.variables);
  functions : l.self.functions ≡ l.initial.self.functions;
  loops : l.self.scene.loops ≡ l.initial.self.scene.loops;
}
