use Rattle.std.proofs.Common.{◌∷◌, ◌∙◌, refl, sym, subst, arith}
use Rattle.std.proofs.lemmas.Grind.{common_steps}
use Rattle.cilk_syntax.specs.declared.token.Kind.TheVariants as kinds
use Rattle.cilk_syntax.specs.Expected.{Named, LocalInitial, Locals}
use Rattle.cilk_syntax.specs.Stops.{IsStop}
use Rattle.cilk_syntax.proofs.Lists.{locals_push}
use Rattle.cilk_syntax.proofs.Runs.{takes}
use Rattle.cilk_syntax.proofs.Stopping.{handed}
use Rattle.cilk_parser.proofs.declarations.locals.Goals as goal

pub each-preserved : goal.each-preserved
each-preserved c = record {
  tree = rw c.in_ok-push-2.ensures.items (locals_push c.each.list.items _ _ _ _ _ c.each.invariant.tree c.in-Some.ensures.found c.in_ok-next.ensures.tree);
  shorter = grind (arith, common_steps);
  reads = λ stack. c.each.invariant.reads stack
      ∙ (takes kinds.Comma _ _ (Locals c.args.depth ∷ stack) (Named ∷ LocalInitial c.args.depth ∷ Locals c.args.depth ∷ stack) 0 0 c.in-Some.ensures.found refl
      ∙ c.in_ok-next.ensures.reads (Locals c.args.depth ∷ stack));
}

pub returns-in_err-next-clause-stops : goal.returns-in_err-next-clause-stops
returns-in_err-next-clause-stops c =
    handed c.from_residual-in_err-next.result c.in_err-next.field-0.0 _ c.from_residual-in_err-next.ensures.1
    (λ stack. subst (IsStop c.in_err-next.field-0.0)
    (sym (c.each.invariant.reads stack
    ∙ takes kinds.Comma _ _ (Locals c.args.depth ∷ stack) (Named ∷ LocalInitial c.args.depth ∷ Locals c.args.depth ∷ stack) 0 0 c.in-Some.ensures.found refl))
    (c.in_err-next.ensures.stops (Locals c.args.depth ∷ stack)))
