use Rattle.std.proofs.Common.{◌∷◌, ◌∙◌, refl, arith}
use Rattle.std.proofs.lemmas.Grind.{common_steps}
use Rattle.cilk_syntax.specs.declared.token.Kind.TheVariants as kinds
use Rattle.cilk_syntax.specs.declared.marks.Punct.TheVariants as marks
use Rattle.cilk_syntax.specs.Expected.{One, Parameter, MoreParameters}
use Rattle.cilk_syntax.proofs.Lists.{parameters_push}
use Rattle.cilk_syntax.proofs.Runs.{takes}
use Rattle.cilk_parser.proofs.parameters.listed.Goals as goal

pub each-preserved : goal.each-preserved
each-preserved c = record {
  tree = rw c.in_ok-push-2.ensures.items (parameters_push c.each.list.items _ _ _ _ _ _ c.each.invariant.tree c.in-Some.ensures.found c.in_ok-after.ensures.token c.in_ok-next.ensures.tree);
  shorter = grind (arith, common_steps);
  reads = λ stack. c.each.invariant.reads stack
      ∙ (takes kinds.Comma _ _ (MoreParameters ∷ stack) (One marks.Int ∷ Parameter ∷ MoreParameters ∷ stack) 0 0 c.in-Some.ensures.found refl
      ∙ (c.in_ok-after.ensures.reads (Parameter ∷ MoreParameters ∷ stack) 0 ∙ c.in_ok-next.ensures.reads (MoreParameters ∷ stack)));
}
