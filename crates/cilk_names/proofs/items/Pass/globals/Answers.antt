-- One more variable, and the end.
use Rattle.std.proofs.Common.{get_or, ◌∙◌}
use Rattle.cilk_syntax.specs.declared.tree.GlobalVariable.{GlobalVariable}
use Rattle.cilk_syntax.specs.declared.tree.GlobalVariable.TheVariants.{Variable}
use Rattle.cilk_syntax.specs.declared.tree.Initializer.TheVariants.{Absent}
use Rattle.cilk_names.specs.States.{known_of}
use Rattle.cilk_names.proofs.Locals.{get_any}
use Rattle.cilk_names.proofs.AllItems.{globals_known, globals_step, globals_known_end, globals_end}
use Rattle.cilk_names.proofs.items.Pass.globals.Goals as goal

pub each-preserved : goal.each-preserved
each-preserved c =
    let none : GlobalVariable = Variable (record { at = 0; end = 0 }) Absent in
    let v : GlobalVariable = get_or c.args.variables.now c.each.variable-index none in
    record {
      known = globals_known (known_of c.args.self.now) (known_of c.each.self) (known_of c.global.new.self) c.args.variables.now c.each.variable-index v c.each-test.true
          (get_any c.args.variables.now c.each.variable-index none v c.each-test.true) c.in_ok-global.ensures.known c.each.invariant.known;
      faults = globals_step (known_of c.args.self.now) (known_of c.each.self) (known_of c.global.new.self) c.args.variables.now c.each.variable-index v c.each-test.true
          (get_any c.args.variables.now c.each.variable-index none v c.each-test.true) c.in_ok-global.ensures.known c.args.self.now.scene.first c.each.self.scene.first c.global.new.self.scene.first
          c.each.invariant.faults c.in_ok-global.ensures.faults;
      functions = c.in_ok-global.ensures.same.0 ∙ c.each.invariant.functions;
      loops = c.in_ok-global.ensures.same.1 ∙ c.each.invariant.loops;
    }

pub returns-clause-known : goal.returns-clause-known
returns-clause-known c = globals_known_end (known_of c.args.self.now) (known_of c.each.self) c.args.variables.now c.each.variable-index c.each-test.false c.each.invariant.known

pub returns-clause-faults : goal.returns-clause-faults
returns-clause-faults c =
    globals_end (known_of c.args.self.now) (known_of c.each.self) c.args.variables.now c.each.variable-index c.each-test.false c.args.self.now.scene.first c.each.self.scene.first c.each.invariant.faults
