use Rattle.std.proofs.Common.{◌≡◌, ◌-◌, ◌≤◌, false, length, take}
use Rattle.cilk_cert_text.specs.declared.line.Version.TheVariants.{Two}
use Rattle.cilk_cert_text.specs.Reading.{event_forms}
use Rattle.cilk_checker.specs.Expected.{DifferInEvents, Spells}
use Rattle.cilk_checker.proofs.blocks.spell_events.Given as goal

abbrev pub invariant-events : goal.invariant-events
invariant-events l = record {
  spells : Spells l.right (event_forms Two (l.tally.events.agreed - l.fn.tally.events.agreed)) l.fn.tally l.tally (take l.done l.room);
  within : l.done ≤ length l.room;
  more : l.fn.tally.events.agreed ≤ l.tally.events.agreed;
  agree : l.tally.events.differs ≡ false;
  sources : l.tally.sources ≡ l.tally.events;
  rest : DifferInEvents l.fn.tally l.tally;
}

abbrev pub decreases-events : goal.decreases-events
decreases-events l = length l.room - l.done
