use Rattle.cilk_cert_maker.proofs.Passing.{Stands}
use Rattle.cilk_cert_maker.proofs.columns.columns.Given as goal

abbrev pub invariant-loop-event : goal.invariant-loop-event
invariant-loop-event l = Stands l.event-items l.event-index l.walk
