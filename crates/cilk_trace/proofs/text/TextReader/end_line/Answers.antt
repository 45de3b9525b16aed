use Rattle.std.proofs.Common.{◌+◌, refl}
use Rattle.cilk_trace.proofs.Readings.{line_refused, line_taken, line_long}
use Rattle.cilk_trace.proofs.text.TextReader.end_line.Goals as goal

pub returns-then-at-self-clause-fault : goal.returns-then-at-self-clause-fault
returns-then-at-self-clause-fault c = λ more.
    rw c.malformed.ensures.value (line_long c.args.self.now.fault c.args.self.now.place c.args.self.now.number c.args.self.now.length c.args.at c.args.self.now.bytes c.args.piece.now more
    c.requires.fault c.requires.due c.args.self.now.no_lf c.requires.front c.requires.found c.requires.within c.if-at-self.true c.args.self.now.room c.args.self.now.whole)

pub returns-in-None-clause-fault : goal.returns-in-None-clause-fault
returns-in-None-clause-fault c = λ more.
    rw c.malformed-in-None.ensures.value (line_refused c.args.self.now.fault c.args.self.now.place c.args.self.now.number c.args.self.now.length c.args.at c.args.self.now.bytes c.args.piece.now more
    c.requires.fault c.args.self.now.no_lf c.requires.front c.requires.found c.in-None.ensures.line)

pub returns-in-Some-clause-line : goal.returns-in-Some-clause-line
returns-in-Some-clause-line c = λ more.
    line_taken c.args.self.now.fault c.args.self.now.place c.in-Some.place c.args.self.now.number (c.args.self.now.number + 1) c.args.self.now.length c.args.at c.args.self.now.bytes c.args.piece.now more c.in-Some.line
    c.requires.fault c.args.self.now.no_lf c.requires.front c.requires.found c.in-Some.ensures.line refl
