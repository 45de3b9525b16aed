use Rattle.std.proofs.Common.{◌∷◌, ◌∙◌, refl, arith}
use Rattle.std.proofs.lemmas.Grind.{common_steps}
use Rattle.cilk_syntax.specs.declared.token.Kind.TheVariants as kinds
use Rattle.cilk_syntax.specs.Expected.{Operand, Tail, Anew, MoreArguments}
use Rattle.cilk_syntax.proofs.Lists.{arguments_push}
use Rattle.cilk_syntax.proofs.Runs.{takes}
use Rattle.cilk_parser.proofs.calls.listed.Goals as goal

pub each-preserved : goal.each-preserved
each-preserved c = record {
  tree = rw c.in_ok-push-2.ensures.items (arguments_push c.each.list.items _ _ _ _ _ c.each.invariant.tree c.in-Some.ensures.found c.in_ok-next.ensures.tree);
  shorter = grind (arith, common_steps);
  reads = λ stack. c.each.invariant.reads stack
      ∙ (takes kinds.Comma _ _ (MoreArguments c.args.depth ∷ stack) (Operand c.args.depth ∷ Tail c.args.depth ∷ Anew ∷ MoreArguments c.args.depth ∷ stack) 0 0 c.in-Some.ensures.found refl
      ∙ c.in_ok-next.ensures.reads (MoreArguments c.args.depth ∷ stack));
}
