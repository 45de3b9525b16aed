use Rattle.std.proofs.Common.{◌≡◌, false, [], ◌∷◌, ◌∙◌, refl}
use Rattle.cilk_syntax.specs.declared.tree.ReturnType.{ReturnType}
use Rattle.cilk_syntax.specs.declared.tree.ReturnType.TheVariants as types
use Rattle.cilk_syntax.specs.Expected.{Items, Goes, behind_type, after}
use Rattle.cilk_syntax.specs.Grammar.{type_of}
use Rattle.cilk_syntax.proofs.Lists.{items_push}
use Rattle.cilk_syntax.proofs.Runs.{takes}
use Rattle.cilk_syntax.proofs.Stopping.{handed, along}
use Rattle.cilk_parser.proofs.items.items.Goals as goal

typed : (r : ReturnType) → after (Items ∷ []) 0 (type_of r) ≡ Goes false (behind_type r (Items ∷ [])) 0
typed types.Int = refl
typed types.Void = refl

pub each-preserved : goal.each-preserved
each-preserved c = record {
  tree = rw c.in_ok-push.ensures.items (items_push c.each.list.items _ _ _ _ c.each.invariant.tree (c.in_ok-next.ensures.tree _ c.in-Some.ensures.found));
  reads = c.each.invariant.reads ∙ (takes (type_of c.in-Some.returns) _ _ (Items ∷ []) (behind_type c.in-Some.returns (Items ∷ [])) 0 0 c.in-Some.ensures.found (typed c.in-Some.returns) ∙ c.in_ok-next.ensures.reads (Items ∷ []));
}

pub returns-in_err-next-clause-stops : goal.returns-in_err-next-clause-stops
returns-in_err-next-clause-stops c =
    handed c.from_residual.result c.in_err-next.field-0.0 _ c.from_residual.ensures.1
    (along _ c.args.tokens.now c.in-Some.after.now (Items ∷ []) (behind_type c.in-Some.returns (Items ∷ []))
    (c.each.invariant.reads ∙ takes (type_of c.in-Some.returns) _ _ (Items ∷ []) (behind_type c.in-Some.returns (Items ∷ [])) 0 0 c.in-Some.ensures.found (typed c.in-Some.returns))
    (c.in_err-next.ensures.stops (Items ∷ [])))
