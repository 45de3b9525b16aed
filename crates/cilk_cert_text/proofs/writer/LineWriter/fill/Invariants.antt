use Rattle.std.proofs.Common.{◌≡◌, ◌++◌, ◌-◌, ◌≤◌, length, take}
use Rattle.cilk_cert_text.specs.Certificates.{text_of_lines}
use Rattle.cilk_cert_text.specs.Writers.{left}
use Rattle.cilk_cert_text.proofs.writer.LineWriter.fill.Given as goal

abbrev pub invariant-lines : goal.invariant-lines
invariant-lines l = record {
  text : text_of_lines (left l.fn.self) ≡ take l.done l.room ++ text_of_lines (left l.self);
  within : l.done ≤ length l.room;
}

abbrev pub decreases-lines : goal.decreases-lines
decreases-lines l = length l.room - l.done
