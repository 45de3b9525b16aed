use Rattle.std.proofs.Common.{take}
use Rattle.cilk_trace.proofs.Readings.{line_endless, no_lf_append}
use Rattle.cilk_trace.proofs.text.TextReader.go_on.Goals as goal

pub returns-then-piece-self-clause-fault : goal.returns-then-piece-self-clause-fault
returns-then-piece-self-clause-fault c = λ more.
    rw c.malformed.ensures.value (line_endless c.args.self.now.fault c.args.self.now.place c.args.self.now.number c.args.self.now.length c.args.self.now.bytes c.args.piece.now more
    c.requires.fault c.requires.due c.args.self.now.no_lf c.requires.none c.if-piece-self.true c.args.self.now.room c.args.self.now.whole)

pub invariant_of-self-clause-no_lf : goal.invariant_of-self-clause-no_lf
invariant_of-self-clause-no_lf c = rw c.append.ensures.front (no_lf_append (take c.args.self.now.length c.args.self.now.bytes) c.args.piece.now c.args.self.now.no_lf c.requires.none)

pub invariant_of-self-clause-at_end : goal.invariant_of-self-clause-at_end
invariant_of-self-clause-at_end c = λ d. absurd (c.requires.due d)
