use Rattle.std.proofs.Common.{◌≡◌, ◌+◌, ◌-◌, Some, subst, sym, arith}
use Rattle.std.specs.Prelude.{slice_get}
use Rattle.cilk_cert_text.specs.declared.line.Line.TheVariants as lines
use Rattle.cilk_cert_text.specs.Certificates.{Contents, lines_of}
use Rattle.cilk_cert_text.proofs.Columns.{line_frame}
use Rattle.cilk_cert_text.proofs.Written.{line_more}
use Rattle.cilk_cert_text.proofs.writer.LineWriter.put_frames.Goals as goal

pub frames-preserved : goal.frames-preserved
frames-preserved c =
    let found = c.in-Some.ensures.lookup in
    let at = c.frames.self.written in
    let line = line_frame c.args.self.now.certificate.now _ (at - 2) at c.in-Some.frame.now c.frames-frames.ensures.value (omega (arith, c.frames-test.true)) found.3.0 found.1 in
    let here : slice_get (lines_of c.frames.self.certificate.now) at ≡ Some (lines.Frame (at - 2 + 1) c.in-Some.frame.now) = subst (λ (d : Contents). slice_get (lines_of d) at ≡ Some (lines.Frame (at - 2 + 1) c.in-Some.frame.now)) (sym c.frames.invariant.same) line in
    record {
      text = line_more (lines_of c.frames.self.certificate.now) at _ _ _ _ here c.frames.invariant.text c.put_line-done.ensures.text;
      within = omega (arith, c.put_line-done.ensures.within, c.put_line-done.auto.room);
      more = omega (arith, c.frames.invariant.more, c.put_line-done.ensures.some);
      same = c.frames.invariant.same;
    }
