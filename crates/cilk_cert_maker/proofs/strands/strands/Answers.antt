use Rattle.std.proofs.Common.{refl, ap, ◌∙◌}
use Rattle.cilk_cert_text.specs.declared.line.Strand.{Strand}
use Rattle.cilk_cert_maker.proofs.Numbered.{numbers_first, numbers_next}
use Rattle.cilk_cert_maker.proofs.strands.strands.Goals as goal

pub loop-index-init : goal.loop-index-init
loop-index-init c = numbers_first _ _ _ _ c.new-strands.ensures.items

pub loop-index-preserved : goal.loop-index-preserved
loop-index-preserved c =
    numbers_next _ _ _ _ _ _ _ _ c.loop-index.invariant c.loop-index-test.true c.requires.labels c.requires.classes refl
    (ap (λ (x : Strand). x.frame) c.strand.ensures.fields)
    (ap (λ (x : Strand). x.hebrew) c.strand.ensures.fields ∙ c.hebrew.ensures)
    (ap (λ (x : Strand). x.class) c.strand.ensures.fields ∙ c.class.ensures)
    c.strand.ensures.small c.in_ok-push.ensures.items
