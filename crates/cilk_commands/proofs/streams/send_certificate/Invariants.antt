use Rattle.std.proofs.Common.{◌≡◌, ℕ, ◌+◌, ◌≤◌, List, [], ◌++◌, length, take}
use Rattle.std.specs.Io.KnownBytes.{Appends}
use Rattle.cilk_cert_text.specs.Certificates.{text_of, text_of_lines}
use Rattle.cilk_cert_text.specs.Writers.{left}
use Rattle.cilk_commands.proofs.streams.send_certificate.Given as goal

abbrev pub invariant-pieces : goal.invariant-pieces
invariant-pieces g l = record {
  sent :
      (front : List ℕ)
      × Appends (g.W.Write.contents l.initial.out) (g.W.Write.contents l.out) front
      × (text_of l.certificate ≡ front ++ (take l.count l.piece ++ text_of_lines (left l.lines)));
  within : l.count ≤ length l.piece;
  last : l.count ≡ 0 → left l.lines ≡ [];
}

abbrev pub decreases-pieces : goal.decreases-pieces
decreases-pieces g l = l.count + length (text_of_lines (left l.lines))
