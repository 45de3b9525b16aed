use Rattle.cilk_serial.specs.States.{Extends}
use Rattle.cilk_serial.proofs.state.State.extend.Given as goal

abbrev pub invariant-each : goal.invariant-each
invariant-each l = Extends l.fn.self l.self l.added
