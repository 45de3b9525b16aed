-- The marks of events: their effect on strands.
use Rattle.std.specs.Prelude.{ℕ}
use Rattle.cilk_types.specs.declared.event.Event as numbers
use Rattle.cilk_types.specs.declared.event.Event.TheVariants as events
use Rattle.cilk_tree.specs.declared.mark.Mark.{Mark}
use Rattle.cilk_tree.specs.declared.mark.Mark.TheVariants.{Begin, End, Sync, Resume, Spawn, Call, Plain}

-- the mark of an event
abbrev pub mark_of : numbers.Event → Mark
mark_of (events.Begin f) = Begin
mark_of (events.Spawn f) = Spawn
mark_of (events.Call f) = Call
mark_of (events.Resume f) = Resume
mark_of events.Sync = Sync
mark_of events.End = End
mark_of (events.Read c v) = Plain
mark_of (events.Write c v) = Plain
mark_of (events.Create i) = Plain
mark_of (events.Update i v) = Plain
mark_of (events.Set i v) = Plain
mark_of (events.Value i v) = Plain
mark_of (events.Print v) = Plain

-- the number of strands that an event begins
abbrev pub begun_by : Mark → ℕ
begun_by Begin = 1
begun_by End = 0
begun_by Sync = 1
begun_by Resume = 1
begun_by Spawn = 0
begun_by Call = 0
begun_by Plain = 0
