use Rattle.std.proofs.Common.{◌≡◌, take, drop}
use Rattle.cilk_cert_text.specs.Reading.{first_line}
use Rattle.cilk_cert_text.proofs.Readings.{prefixed}
use Rattle.cilk_cert_text.proofs.reader.end_of_line.Given as goal

abbrev pub invariant-loop-at : goal.invariant-loop-at
invariant-loop-at l = first_line l.piece ≡ prefixed (take l.at l.piece) (first_line (drop l.at l.piece))
