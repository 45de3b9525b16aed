use Rattle.std.proofs.Common.{arith}
use Rattle.cilk_cert_text.proofs.Rooms.{number_small}
use Rattle.std.proofs.Common.{take}
use Rattle.cilk_cert_text.specs.Places.{due_of, number_at}
use Rattle.cilk_cert_text.proofs.Readings.{line_endless, first_none}
use Rattle.cilk_cert_text.proofs.reader.LineReader.go_on.Goals as goal

pub returns-then-piece-self-clause-fault : goal.returns-then-piece-self-clause-fault
returns-then-piece-self-clause-fault c = λ more.
    rw c.malformed.ensures.value (line_endless c.args.self.now.fault (due_of c.args.self.now.place) (number_at c.args.self.now.place) c.args.self.now.length c.args.self.now.bytes c.args.piece.now more
    c.requires.fault c.requires.due c.args.self.now.no_lf c.requires.none c.if-piece-self.true c.args.self.now.room c.args.self.now.whole)

pub invariant_of-self-clause-no_lf : goal.invariant_of-self-clause-no_lf
invariant_of-self-clause-no_lf c = rw c.append.ensures.front (first_none (take c.args.self.now.length c.args.self.now.bytes) c.args.piece.now c.args.self.now.no_lf c.requires.none)

pub invariant_of-self-clause-at_end : goal.invariant_of-self-clause-at_end
invariant_of-self-clause-at_end c = λ d. absurd (c.requires.due d)

pub returns-clause-room : goal.returns-clause-room
returns-clause-room c = let n = number_small c.args.self.now.place in omega (arith, n, c.args.self.now.room, c.if-piece-self.false)
