use Rattle.std.proofs.Common.{subst, sym, ◌∙◌, rules, w64}
use Rattle.std.proofs.lemmas.Int.{to_z-of_z}
use Rattle.cilk_cert_text.specs.Certificates.{Contents, IsCertificate}
use Rattle.cilk_cert_maker.specs.Right.{IsRight}
use Rattle.cilk_cert_maker.proofs.Numbered.{labels_fit, classes_fit, events_few, owners_few, is_right, is_certificate}
use Rattle.cilk_cert_maker.proofs.make.certificate.Goals as goal

pub strands-requires-clause-few : goal.strands-requires-clause-few
strands-requires-clause-few c =
    let s = c.requires.0 in
    let spells = c.requires.1 in
    owners_few s c.args.trace.now spells _ (c.as_slice.ensures.value ∙ c.in_ok-frames.ensures.owners s spells) (events_few _ _ c.len-count.ensures.events c.len-count.ensures.within)

pub strands-requires-clause-labels : goal.strands-requires-clause-labels
strands-requires-clause-labels c =
    let s = c.requires.0 in
    let spells = c.requires.1 in
    labels_fit s c.args.trace.now spells _ _ (c.as_slice.ensures.value ∙ c.in_ok-frames.ensures.owners s spells) (c.in_ok-labels.ensures.labels s spells)

pub strands-requires-clause-classes : goal.strands-requires-clause-classes
strands-requires-clause-classes c =
    let s = c.requires.0 in
    let spells = c.requires.1 in
    classes_fit s c.args.trace.now spells _ _ (c.as_slice.ensures.value ∙ c.in_ok-frames.ensures.owners s spells) (c.in_ok-labels.ensures.classes s spells)

pub new-requires : goal.new-requires
new-requires c =
    let s = c.requires.0 in
    let spells = c.requires.1 in
    is_certificate s c.args.trace.now spells _ _ _ _ _ (c.as_slice.ensures.value ∙ c.in_ok-frames.ensures.owners s spells) (c.in_ok-frames.ensures.frames s spells)
    c.in_ok-strands.ensures.many c.in_ok-entries.ensures.many c.requires.2 (events_few _ _ c.in_ok-entries.ensures.many c.in_ok-entries.ensures.few) c.in_ok-strands.ensures.small c.in_ok-entries.ensures.small (search rules)

pub returns-clause-certificate : goal.returns-clause-certificate
returns-clause-certificate c =
    let s = c.requires.0 in
    let spells = c.requires.1 in
    subst (λ (k : Contents). IsCertificate k) (sym c.new.ensures)
    (is_certificate s c.args.trace.now spells _ _ _ _ _ (c.as_slice.ensures.value ∙ c.in_ok-frames.ensures.owners s spells) (c.in_ok-frames.ensures.frames s spells)
    c.in_ok-strands.ensures.many c.in_ok-entries.ensures.many c.requires.2 (events_few _ _ c.in_ok-entries.ensures.many c.in_ok-entries.ensures.few) c.in_ok-strands.ensures.small c.in_ok-entries.ensures.small (search rules))

pub returns-clause-right : goal.returns-clause-right
returns-clause-right c = λ s spells.
    subst (λ (k : Contents). IsRight s c.args.trace.now c.args.outcome.now.result k) (sym c.new.ensures)
    (is_right s c.args.trace.now spells _ _ _ _ _ _ _ _ (c.as_slice.ensures.value ∙ c.in_ok-frames.ensures.owners s spells)
    (c.in_ok-labels.ensures.labels s spells) (c.in_ok-labels.ensures.classes s spells) (c.in_ok-frames.ensures.frames s spells)
    c.in_ok-strands.ensures.many c.in_ok-strands.ensures.owners c.in_ok-strands.ensures.hebrews c.in_ok-strands.ensures.classes
    c.in_ok-entries.ensures.many c.in_ok-entries.ensures.events c.in_ok-entries.ensures.sources
    (to_z-of_z w64 c.result_of-value.result (record { sfits = c.result_of-value.type_inv }) ∙ c.result_of-value.ensures))
