use Rattle.std.proofs.Common.{◌++◌, ap, ap₂, ◌∙◌}
use Rattle.std.specs.Prelude.{option_map}
use Rattle.json.specs.Print.{print}
use Rattle.cilk_messages.specs.Batches.{line, object_line}
use Rattle.cilk_messages.proofs.batch.object.Goals as goal

pub returns : goal.returns
returns c =
    c.in_ok-push.ensures.items
    ∙ ap line (c.into_inner-text.ensures.items
    ∙ ap₂ (λ before ts. before ++ print ts) (c.in_ok-write_object.ensures.before ∙ c.new-writer.ensures.before ∙ c.new.ensures.items) c.in_ok-write_object.ensures.tokens)
    ∙ ap (λ reply. object_line c.args.program.now c.args.status reply c.args.explanation.now (option_map (λ claim. claim.now) c.args.claim) c.args.place) c.in-Ok.ensures.cases.0
