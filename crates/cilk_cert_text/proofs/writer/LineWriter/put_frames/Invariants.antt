use Rattle.std.proofs.Common.{◌≡◌, ◌++◌, ◌-◌, ◌≤◌, length, take}
use Rattle.cilk_cert_text.specs.Certificates.{text_of_lines}
use Rattle.cilk_cert_text.specs.Writers.{left}
use Rattle.cilk_cert_text.proofs.writer.LineWriter.put_frames.Given as goal

abbrev pub invariant-frames : goal.invariant-frames
invariant-frames l = record {
  text : take l.at l.fn.room ++ text_of_lines (left l.fn.self) ≡ take l.done l.room ++ text_of_lines (left l.self);
  within : l.done ≤ length l.room;
  more : l.at ≤ l.done;
  same : l.self.certificate.now ≡ l.fn.self.certificate.now;
}

abbrev pub decreases-frames : goal.decreases-frames
decreases-frames l = length l.room - l.done
