-- One more variable, and the end.
use Rattle.std.proofs.Common.{◌∙◌}
use Rattle.cilk_names.specs.States.{context_of}
use Rattle.cilk_names.proofs.Locals.{locals_context, locals_step, declarations_step, locals_context_end, locals_end, declarations_end}
use Rattle.cilk_names.proofs.scene.Resolver.locals.Goals as goal

pub each-preserved : goal.each-preserved
each-preserved c = record {
  context = locals_context (context_of c.args.self.now) (context_of c.each.self) (context_of c.local.new.self) c.args.locals.now c.each.local-index c.local-item.result c.each-test.true c.local-item.is
      c.in_ok-local.ensures.context c.each.invariant.context;
  faults = locals_step (context_of c.args.self.now) (context_of c.each.self) (context_of c.local.new.self) c.args.locals.now c.each.local-index c.local-item.result c.each-test.true c.local-item.is
      c.in_ok-local.ensures.context c.args.self.now.first c.each.self.first c.local.new.self.first c.each.invariant.faults c.in_ok-local.ensures.faults;
  loops = c.local.ensures.loops ∙ c.each.invariant.loops;
  value = declarations_step (context_of c.args.self.now) (context_of c.each.self) (context_of c.local.new.self) c.args.locals.now c.each.local-index c.local-item.result c.each-test.true c.local-item.is
      c.in_ok-local.ensures.context c.each.declarations.items c.push.new.self.items c.in_ok-local.field-0 c.each.invariant.value c.in_ok-local.ensures.value c.in_ok-push.ensures.items;
}

pub returns-clause-context : goal.returns-clause-context
returns-clause-context c = locals_context_end (context_of c.args.self.now) (context_of c.each.self) c.args.locals.now c.each.local-index c.each-test.false c.each.invariant.context

pub returns-clause-faults : goal.returns-clause-faults
returns-clause-faults c =
    locals_end (context_of c.args.self.now) (context_of c.each.self) c.args.locals.now c.each.local-index c.each-test.false c.args.self.now.first c.each.self.first c.each.invariant.faults

pub returns-clause-value : goal.returns-clause-value
returns-clause-value c =
    declarations_end (context_of c.args.self.now) (context_of c.each.self) c.args.locals.now c.each.local-index c.each-test.false c.each.declarations.items c.each.invariant.value
