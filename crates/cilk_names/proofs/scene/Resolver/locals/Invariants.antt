-- The declarations so far, and those that are left.
use Rattle.std.proofs.Common.{◌≡◌, ◌++◌, map, drop}
use Rattle.cilk_syntax.specs.Trees.{locals_of}
use Rattle.cilk_program.specs.Programs.{declaration}
use Rattle.cilk_names.specs.Contexts.{behind_locals}
use Rattle.cilk_names.specs.Faults.{earliest}
use Rattle.cilk_names.specs.Misnamings.{locals_faults}
use Rattle.cilk_names.specs.Pass.{declarations_of}
use Rattle.cilk_names.specs.States.{context_of}
use Rattle.cilk_names.proofs.scene.Resolver.locals.Given as goal

abbrev pub invariant-each : goal.invariant-each
invariant-each l = record {
  context : behind_locals (context_of l.self) (locals_of (drop l.local-index l.locals)) ≡ behind_locals (context_of l.initial.self) (locals_of l.locals);
  faults : earliest l.self.first (locals_faults (context_of l.self) (locals_of (drop l.local-index l.locals))) ≡ earliest l.initial.self.first (locals_faults (context_of l.initial.self) (locals_of l.locals));
  loops : l.self.loops ≡ l.initial.self.loops;
  value : map declaration l.declarations.items ++ declarations_of (context_of l.self) (locals_of (drop l.local-index l.locals)) ≡ declarations_of (context_of l.initial.self) (locals_of l.locals);
}
