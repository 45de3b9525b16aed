use Rattle.std.proofs.Common.{◌-◌, length}
use Rattle.cilk_types.specs.declared.limits.TheConstants.{MAX_EVENTS}
use Rattle.cilk_program.specs.Sources.{source}
use Rattle.cilk_serial.specs.Going.{Going, IsLater}
use Rattle.cilk_serial.proofs.running.Running.complete.Given as goal

abbrev pub invariant-each : goal.invariant-each
invariant-each l = record {
  going : Going l.code (source l.program) l.input l.self;
  later : IsLater l.fn.self.state l.self.state;
}

abbrev pub decreases-each : goal.decreases-each
decreases-each l = MAX_EVENTS - length l.self.state.events.items
