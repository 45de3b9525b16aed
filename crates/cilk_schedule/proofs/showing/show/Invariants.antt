use Rattle.std.specs.Prelude.{take}
use Rattle.cilk_schedule.specs.Gathering.{AreGathered}
use Rattle.cilk_schedule.proofs.showing.show.Given as goal

abbrev pub invariant-each : goal.invariant-each
invariant-each l = let b = l.scheduler in let f = b.frames in let e = b.journal in AreGathered f.items l.globals (take l.entry-index e.items) l.frames.items
