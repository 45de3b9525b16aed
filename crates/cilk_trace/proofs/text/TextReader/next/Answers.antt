use Rattle.cilk_trace.proofs.Readings.{over}
use Rattle.cilk_trace.proofs.text.TextReader.next.Goals as goal

pub returns-then-is_over-clause-fault : goal.returns-then-is_over-clause-fault
returns-then-is_over-clause-fault c = λ more.
    let due = c.is_over.ensures.yes c.if-is_over.true in
    rw c.malformed.ensures.value (over c.args.self.now.fault c.args.self.now.place c.args.self.now.number c.args.self.now.length c.args.self.now.bytes c.args.piece.now more
    c.in_default.is due (c.args.self.now.at_end due) c.if-is_empty.ensures)
