use Rattle.std.proofs.Common.{◌≡◌, ◌+◌, ◌-◌, Some, subst, sym, length, arith}
use Rattle.std.specs.Prelude.{slice_get}
use Rattle.cilk_cert_text.specs.declared.line.Line.TheVariants as lines
use Rattle.cilk_cert_text.specs.Certificates.{Contents, lines_of}
use Rattle.cilk_cert_text.proofs.Columns.{line_event}
use Rattle.cilk_cert_text.proofs.Written.{line_more}
use Rattle.cilk_cert_text.proofs.writer.LineWriter.put_events.Goals as goal

pub events-preserved : goal.events-preserved
events-preserved c =
    let found = c.in-Some.ensures.lookup in
    let at = c.events.self.written in
    let first = 2 + length c.frames.result.now + length c.strands.result.now in
    let line = line_event c.args.self.now.certificate.now c.frames.result.now c.strands.result.now c.events-events.result.now (at - first) at c.in-Some.event.now c.frames.ensures.value c.strands.ensures.value c.events-events.ensures.value (omega (arith, c.events-test.true)) found.3.0 found.1 in
    let here : slice_get (lines_of c.events.self.certificate.now) at ≡ Some (lines.Event c.in-Some.event.now) = subst (λ (d : Contents). slice_get (lines_of d) at ≡ Some (lines.Event c.in-Some.event.now)) (sym c.events.invariant.same) line in
    record {
      text = line_more (lines_of c.events.self.certificate.now) at _ _ _ _ here c.events.invariant.text c.put_event-done.ensures.text;
      within = omega (arith, c.put_event-done.ensures.within, c.put_event-done.auto.room);
      more = omega (arith, c.events.invariant.more, c.put_event-done.ensures.some);
      same = c.events.invariant.same;
    }
