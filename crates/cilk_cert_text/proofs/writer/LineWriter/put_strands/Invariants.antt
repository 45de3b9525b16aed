use Rattle.std.proofs.Common.{◌≡◌, ◌++◌, ◌-◌, ◌≤◌, length, take}
use Rattle.cilk_cert_text.specs.Certificates.{text_of_lines}
use Rattle.cilk_cert_text.specs.Writers.{left}
use Rattle.cilk_cert_text.proofs.writer.LineWriter.put_strands.Given as goal

abbrev pub invariant-strands : goal.invariant-strands
invariant-strands l = record {
  text : take l.at l.fn.room ++ text_of_lines (left l.fn.self) ≡ take l.done l.room ++ text_of_lines (left l.self);
  within : l.done ≤ length l.room;
  more : l.at ≤ l.done;
  same : l.self.certificate.now ≡ l.fn.self.certificate.now;
}

abbrev pub decreases-strands : goal.decreases-strands
decreases-strands l = length l.room - l.done
