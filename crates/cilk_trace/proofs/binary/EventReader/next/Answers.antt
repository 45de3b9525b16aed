use Rattle.std.proofs.Common.{◌<◌, ◌∙◌, length, drop, arith}
use Rattle.std.proofs.lemmas.List.{length-drop}
use Rattle.cilk_trace.proofs.EventReadings.{over_piece}
use Rattle.cilk_trace.specs.EventReaders.{events_in}
use Rattle.cilk_trace.proofs.binary.EventReader.next.Goals as goal

pub returns-then-is_over-clause-fault : goal.returns-then-is_over-clause-fault
returns-then-is_over-clause-fault c = λ more.
    let s = c.bytes.self in
    let piece = c.args.piece.now in
    let some : 0 < length (drop c.bytes.taken piece) = let l = length-drop c.bytes.taken piece in let t = c.bytes-test.true in omega (arith, l, t) in
    c.bytes.invariant.0 more ∙ rw c.malformed-then-is_over.ensures.value (over_piece s.fault (events_in s) s.number s.value s.unit (drop c.bytes.taken piece) more
    c.bytes.invariant.4 (c.is_over.ensures.yes c.if-is_over.true) s.started some)
