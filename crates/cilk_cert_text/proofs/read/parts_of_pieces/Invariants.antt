use Rattle.std.proofs.Common.{drop}
use Rattle.cilk_cert_text.specs.Reading.{reading_of}
use Rattle.cilk_cert_text.specs.Readers.{ahead}
use Rattle.cilk_cert_text.specs.Gathering.{nothing}
use Rattle.cilk_cert_text.specs.Parts.{said, Leads, joined_pieces}
use Rattle.cilk_cert_text.proofs.read.parts_of_pieces.Given as goal

abbrev pub invariant-loop-piece : goal.invariant-loop-piece
invariant-loop-piece l = Leads (reading_of (joined_pieces l.pieces)) nothing (ahead l.reader (joined_pieces (drop l.piece-index l.pieces))) (said l.parts)
