use Rattle.std.proofs.Common.{subst}
use Rattle.std.proofs.lemmas.List.{take_all}
use Rattle.cilk_trace.specs.Reading.{HasNoLf}
use Rattle.cilk_trace.proofs.Readings.{no_lf_next}
use Rattle.cilk_trace.proofs.text.end_of_line.Goals as goal

pub loop-at-preserved : goal.loop-at-preserved
loop-at-preserved c = no_lf_next c.loop-at.at c.args.piece.now c.loop-at-test.true c.if-byte-eq10.false c.loop-at.invariant

pub returns-clause-none : goal.returns-clause-none
returns-clause-none c = subst HasNoLf (take_all c.loop-at.at c.args.piece.now c.loop-at-test.false) c.loop-at.invariant
