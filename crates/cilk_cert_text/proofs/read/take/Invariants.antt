use Rattle.std.proofs.Common.{ℕ, List, ◌++◌, length}
use Rattle.cilk_cert_text.specs.Readers.{ahead}
use Rattle.cilk_cert_text.specs.Parts.{said, Leads}
use Rattle.cilk_cert_text.proofs.read.take.Given as goal

abbrev pub invariant-lines : goal.invariant-lines
invariant-lines l = (more : List ℕ) → Leads (ahead l.fn.reader (l.piece ++ more)) (said l.fn.parts) (ahead l.reader (l.rest ++ more)) (said l.parts)

abbrev pub decreases-lines : goal.decreases-lines
decreases-lines l = length l.rest
