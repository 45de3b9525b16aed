use Rattle.std.proofs.Common.{◌≡◌, take}
use Rattle.cilk_monoid.specs.Ranges.{same_instance}
use Rattle.cilk_program.specs.Store.{clear_all}
use Rattle.cilk_program.specs.SerialRun.{Memory}
use Rattle.cilk_serial.specs.Scoped.{own_of}
use Rattle.cilk_serial.specs.States.{Shows}
use Rattle.cilk_serial.proofs.frames.retire_all.Given as goal

abbrev pub invariant-each : goal.invariant-each
invariant-each g l = record {
  events : l.state.events.items ≡ l.fn.state.events.items;
  shows : (m : Memory) → Shows l.fn.state m
      → Shows l.state (record { store = clear_all same_instance (own_of l.top) 0 (take l.number l.kinds) m.store; frames = m.frames; cells = m.cells; room = m.room });
}
