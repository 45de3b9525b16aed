use Rattle.std.proofs.Common.{◌+◌, ◌-◌, ◌*◌, length}
use Rattle.cilk_types.specs.declared.limits.TheConstants.{MAX_EVENTS}
use Rattle.cilk_program.specs.Sources.{source}
use Rattle.cilk_frames.specs.Moving.{effort}
use Rattle.cilk_serial.proofs.Between.{Stretch}
use Rattle.cilk_serial.proofs.running.Running.run_on.Given as goal

abbrev pub invariant-each : goal.invariant-each
invariant-each g l = Stretch l.code (source l.program) l.input l.fn.self.state l.self.state l.self.frames l.cursor l.left

abbrev pub decreases-each : goal.decreases-each
decreases-each g l = (MAX_EVENTS - length l.self.state.events.items) * (length l.code.instrs + 2) + effort l.code.instrs l.cursor.place l.left
