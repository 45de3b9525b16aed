use Rattle.std.proofs.Common.{◌≡◌, ◌+◌, ◌-◌, Some, subst, sym, length, arith}
use Rattle.std.specs.Prelude.{slice_get}
use Rattle.cilk_cert_text.specs.declared.line.Line.TheVariants as lines
use Rattle.cilk_cert_text.specs.Certificates.{Contents, lines_of}
use Rattle.cilk_cert_text.proofs.Columns.{line_strand}
use Rattle.cilk_cert_text.proofs.Written.{line_more}
use Rattle.cilk_cert_text.proofs.writer.LineWriter.put_strands.Goals as goal

pub strands-preserved : goal.strands-preserved
strands-preserved c =
    let found = c.in-Some.ensures.lookup in
    let at = c.strands.self.written in
    let first = 2 + length c.frames.result.now in
    let line = line_strand c.args.self.now.certificate.now c.frames.result.now c.strands-strands.result.now (at - first) at c.in-Some.strand.now c.frames.ensures.value c.strands-strands.ensures.value (omega (arith, c.strands-test.true)) found.3.0 found.1 in
    let here : slice_get (lines_of c.strands.self.certificate.now) at ≡ Some (lines.Strand (at - first + 1) c.in-Some.strand.now) = subst (λ (d : Contents). slice_get (lines_of d) at ≡ Some (lines.Strand (at - first + 1) c.in-Some.strand.now)) (sym c.strands.invariant.same) line in
    record {
      text = line_more (lines_of c.strands.self.certificate.now) at _ _ _ _ here c.strands.invariant.text c.put_line-done.ensures.text;
      within = omega (arith, c.put_line-done.ensures.within, c.put_line-done.auto.room);
      more = omega (arith, c.strands.invariant.more, c.put_line-done.ensures.some);
      same = c.strands.invariant.same;
    }
