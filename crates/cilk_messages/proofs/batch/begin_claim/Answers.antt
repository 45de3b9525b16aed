use Rattle.std.proofs.Common.{◌∷◌, ◌++◌, [], ap, ◌∙◌, codes}
use Rattle.std.proofs.lemmas.List.{append_assoc}
use Rattle.json.specs.Token.{begin_object, key}
use Rattle.cilk_messages.proofs.batch.begin_claim.Goals as goal

pub returns-clause-tokens : goal.returns-clause-tokens
returns-clause-tokens c =
    c.in_ok-key-2.ensures.ok
    ∙ ap (λ ts. ts ++ key (codes "numbers") ∷ []) (c.in_ok-begin_object.ensures.ok ∙ ap (λ ts. ts ++ begin_object ∷ []) c.in_ok-key.ensures.ok)
    ∙ append_assoc (c.args.writer.now.tokens ++ key (codes "every") ∷ []) (begin_object ∷ []) (key (codes "numbers") ∷ [])
    ∙ append_assoc c.args.writer.now.tokens (key (codes "every") ∷ []) (begin_object ∷ key (codes "numbers") ∷ [])
