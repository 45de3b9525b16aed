use Rattle.std.proofs.Common.{◌≡◌, ℕ, ◌<◌, None, get_or}
use Rattle.cilk_types.specs.declared.event.Event.{Event}
use Rattle.cilk_cells.specs.Reads.{instance_read}
use Rattle.cilk_cells.proofs.first_reads.has_read.Given as goal

abbrev pub invariant-loop-event : goal.invariant-loop-event
invariant-loop-event l = (k : ℕ) (e : Event) → k < l.event-index → instance_read (get_or l.events k e) ≡ None
