-- The parameters so far, and those that are left.
use Rattle.std.proofs.Common.{◌≡◌, drop}
use Rattle.cilk_names.specs.Contexts.{with_parameters}
use Rattle.cilk_names.specs.Faults.{earliest}
use Rattle.cilk_names.specs.Misnamings.{parameters_faults}
use Rattle.cilk_names.specs.States.{context_of}
use Rattle.cilk_names.proofs.scene.Resolver.parameters.Given as goal

abbrev pub invariant-each : goal.invariant-each
invariant-each l = record {
  context : with_parameters (context_of l.self) (drop l.parameter-index l.parameters) ≡ with_parameters (context_of l.initial.self) l.parameters;
  faults : earliest l.self.first (parameters_faults (context_of l.self) (drop l.parameter-index l.parameters)) ≡ earliest l.initial.self.first (parameters_faults (context_of l.initial.self) l.parameters);
  loops : l.self.loops ≡ l.initial.self.loops;
}
