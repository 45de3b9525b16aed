use Rattle.std.proofs.Common.{◌-◌, length}
use Rattle.cilk_types.specs.declared.limits.TheConstants.{MAX_EVENTS}
use Rattle.cilk_checker.proofs.Noting.{Noted}
use Rattle.cilk_checker.proofs.ending.run_code.Given as goal

abbrev pub invariant-each : goal.invariant-each
invariant-each l = Noted l.program l.input l.serial l.frames.items l.cells

abbrev pub decreases-each : goal.decreases-each
decreases-each l = MAX_EVENTS - length l.serial.events
