use Rattle.std.proofs.Common.{◌∙◌}
use Rattle.cilk_cert_text.proofs.Columns.{column_frame, column_strand, column_late}
use Rattle.cilk_cert_text.proofs.certificate.Certificate.column_line.Goals as goal

pub returns-in-Some-clause-value : goal.returns-in-Some-clause-value
returns-in-Some-clause-value c =
    let found = c.in-Some.ensures.lookup in
    column_frame c.args.self.now _ _ _ c.frames-frames.ensures.value found.3.0 found.1

pub returns-in-Some-get-clause-value : goal.returns-in-Some-get-clause-value
returns-in-Some-get-clause-value c =
    let found = c.in-Some-get.ensures.lookup in
    column_strand c.args.self.now _ _ _ _ c.frames-frames.ensures.value c.strands-strands.ensures.value c.in_default.ensures.lookup.3 found.3.0 found.1

pub returns-clause-value : goal.returns-clause-value
returns-clause-value c =
    c.late_line.ensures.value
    ∙ column_late c.args.self.now _ _ _ c.frames-frames.ensures.value c.strands-strands.ensures.value c.in_default.ensures.lookup.3 c.in_default-get.ensures.lookup.3
