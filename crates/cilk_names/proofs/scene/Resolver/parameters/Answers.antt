-- One more parameter, and the end.
use Rattle.std.proofs.Common.{◌∙◌, get_or}
use Rattle.cilk_syntax.specs.declared.tree.Parameter.{Parameter}
use Rattle.cilk_syntax.specs.declared.tree.Parameter.TheVariants.{Variable}
use Rattle.cilk_names.specs.States.{context_of}
use Rattle.cilk_names.proofs.Locals.{get_any, parameters_context, parameters_step, parameters_context_end, parameters_end}
use Rattle.cilk_names.proofs.scene.Resolver.parameters.Goals as goal

pub each-preserved : goal.each-preserved
each-preserved c =
    let none : Parameter = Variable (record { at = 0; end = 0 }) in
    let p : Parameter = get_or c.args.parameters.now c.each.parameter-index none in
    record {
      context = parameters_context (context_of c.args.self.now) (context_of c.each.self) (context_of c.parameter.new.self) c.args.parameters.now c.each.parameter-index p c.each-test.true (get_any c.args.parameters.now c.each.parameter-index none p c.each-test.true)
          c.in_ok-parameter.ensures.context c.each.invariant.context;
      faults = parameters_step (context_of c.args.self.now) (context_of c.each.self) (context_of c.parameter.new.self) c.args.parameters.now c.each.parameter-index p c.each-test.true (get_any c.args.parameters.now c.each.parameter-index none p c.each-test.true)
          c.in_ok-parameter.ensures.context c.args.self.now.first c.each.self.first c.parameter.new.self.first c.each.invariant.faults c.in_ok-parameter.ensures.faults;
      loops = c.parameter.ensures.loops ∙ c.each.invariant.loops;
    }

pub returns-clause-context : goal.returns-clause-context
returns-clause-context c = parameters_context_end (context_of c.args.self.now) (context_of c.each.self) c.args.parameters.now c.each.parameter-index c.each-test.false c.each.invariant.context

pub returns-clause-faults : goal.returns-clause-faults
returns-clause-faults c =
    parameters_end (context_of c.args.self.now) (context_of c.each.self) c.args.parameters.now c.each.parameter-index c.each-test.false c.args.self.now.first c.each.self.first c.each.invariant.faults
