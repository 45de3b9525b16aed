use Rattle.std.proofs.Common.{◌≡◌, ◌++◌, ◌≤◌, ◌+◌, [], length, take}
use Rattle.cilk_cert_text.specs.Certificates.{text_of, text_of_lines}
use Rattle.cilk_cert_text.specs.Writers.{left}
use Rattle.cilk_cert_text.proofs.write.write.Given as goal

abbrev pub invariant-pieces : goal.invariant-pieces
invariant-pieces l = record {
  text : text_of l.fn.certificate ≡ l.text.items ++ (take l.count l.piece ++ text_of_lines (left l.lines));
  within : l.count ≤ length l.piece;
  last : l.count ≡ 0 → left l.lines ≡ [];
}

abbrev pub decreases-pieces : goal.decreases-pieces
decreases-pieces l = l.count + length (text_of_lines (left l.lines))
