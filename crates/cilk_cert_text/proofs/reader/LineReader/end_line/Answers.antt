use Rattle.cilk_cert_text.specs.Places.{due_of, number_at}
use Rattle.cilk_cert_text.proofs.Readings.{line_gives, line_taken, line_long}
use Rattle.cilk_cert_text.proofs.reader.LineReader.end_line.Goals as goal

pub returns-then-at-self-clause-fault : goal.returns-then-at-self-clause-fault
returns-then-at-self-clause-fault c = λ more.
    rw c.malformed.ensures.value (line_long c.args.self.now.fault (due_of c.args.self.now.place) (number_at c.args.self.now.place) c.args.at c.args.self.now.length c.args.self.now.bytes c.args.piece.now more
    c.requires.fault c.requires.due c.args.self.now.no_lf c.requires.within c.requires.found c.if-at-self.true c.args.self.now.room c.args.self.now.whole)

pub returns-in-None-clause-fault : goal.returns-in-None-clause-fault
returns-in-None-clause-fault c = λ more.
    rw c.malformed-in-None.ensures.value (line_gives c.args.self.now.fault (due_of c.args.self.now.place) (number_at c.args.self.now.place) c.args.at c.args.self.now.length c.args.self.now.bytes c.args.piece.now more _
    c.requires.fault c.requires.due c.args.self.now.no_lf c.requires.within c.requires.found c.if-at-self.false c.args.self.now.room c.in-None.ensures.line)

pub returns-in-Some-clause-line : goal.returns-in-Some-clause-line
returns-in-Some-clause-line c = λ more.
    line_taken c.args.self.now.fault (due_of c.args.self.now.place) (due_of c.in-Some.place) (number_at c.args.self.now.place) (number_at c.in-Some.place) c.args.at c.args.self.now.length c.args.self.now.bytes c.args.piece.now more c.in-Some.line
    c.requires.fault c.requires.due c.args.self.now.no_lf c.requires.within c.requires.found c.if-at-self.false c.args.self.now.room c.in-Some.ensures.line c.in-Some.ensures.number
