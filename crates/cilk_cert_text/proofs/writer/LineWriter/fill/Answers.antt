use Rattle.std.proofs.Common.{arith, sym, ◌∙◌}
use Rattle.cilk_cert_text.proofs.Columns.{left_none}
use Rattle.cilk_cert_text.proofs.Written.{line_more}
use Rattle.cilk_cert_text.specs.Certificates.{lines_of}
use Rattle.cilk_cert_text.proofs.writer.LineWriter.fill.Goals as goal

pub returns-in_default-clause-last : goal.returns-in_default-clause-last
returns-in_default-clause-last c = λ _. left_none (lines_of c.put_events-done.new.self.certificate.now) c.put_events-done.new.self.written (sym c.in_default.ensures.value)

pub lines-preserved : goal.lines-preserved
lines-preserved c = record {
  text =
      line_more (lines_of c.put_events-done.new.self.certificate.now) c.put_events-done.new.self.written c.in-Some.line _ _ _ (sym c.in-Some.ensures.value)
      (c.lines.invariant.text ∙ c.put_frames-done.ensures.text ∙ c.put_strands-done.ensures.text ∙ c.put_events-done.ensures.text)
      c.put_line-done.ensures.text;
  within = omega (arith, c.put_line-done.ensures.within, c.put_line-done.auto.room);
}
