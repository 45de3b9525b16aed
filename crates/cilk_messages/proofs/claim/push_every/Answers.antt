use Rattle.std.proofs.Common.{◌++◌, ap, ◌∙◌, codes}
use Rattle.std.proofs.lemmas.List.{append_assoc}
use Rattle.cilk_messages.specs.Claims.{numbers_text, with_text}
use Rattle.cilk_messages.proofs.claim.push_every.Goals as goal

pub returns : goal.returns
returns c =
    let before = c.args.text.now.items ++ codes "every input of " in
    c.in_ok-push_with.ensures
    ∙ ap (λ t. t ++ with_text c.as_slice.result.now)
    (c.in_ok-push_numbers.ensures ∙ ap (λ t. t ++ numbers_text c.args.claim.now.count) c.in_ok-extend_from_slice.ensures.items)
    ∙ ap (λ ps. (before ++ numbers_text c.args.claim.now.count) ++ with_text ps) c.as_slice.ensures.value
    ∙ append_assoc before (numbers_text c.args.claim.now.count) (with_text c.args.claim.now.fixed.items)
    ∙ append_assoc c.args.text.now.items (codes "every input of ") (numbers_text c.args.claim.now.count ++ with_text c.args.claim.now.fixed.items)
