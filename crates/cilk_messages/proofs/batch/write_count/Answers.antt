use Rattle.std.proofs.Common.{◌∷◌, ◌++◌, [], ap, ◌∙◌, codes, decimal}
use Rattle.std.proofs.lemmas.List.{append_assoc}
use Rattle.json.specs.Token.{key, number}
use Rattle.cilk_messages.specs.Claims.{claim_tokens}
use Rattle.cilk_messages.proofs.batch.write_count.Goals as goal

pub returns-clause-tokens : goal.returns-clause-tokens
returns-clause-tokens c =
    c.in_ok-key.ensures.ok
    ∙ ap (λ ts. ts ++ key (codes "fixed") ∷ []) (c.in_ok-u64.ensures.ok ∙ ap (λ ts. ts ++ number (decimal c.args.count) ∷ []) c.in_ok-begin_claim.ensures.tokens)
    ∙ append_assoc (c.args.writer.now.tokens ++ claim_tokens) (number (decimal c.args.count) ∷ []) (key (codes "fixed") ∷ [])
    ∙ append_assoc c.args.writer.now.tokens claim_tokens (number (decimal c.args.count) ∷ key (codes "fixed") ∷ [])
