use Rattle.std.proofs.Common.{ℕ, ◌<◌, ◌≤◌, get_or}
use Rattle.cilk_types.specs.declared.event.Event.{Event}
use Rattle.cilk_cells.specs.Keeping.{Fits}
use Rattle.cilk_cells.proofs.histories.cells_of.Given as goal

abbrev pub invariant-loop-event : goal.invariant-loop-event
invariant-loop-event l =
    ((k : ℕ) (e : Event) → k < l.event-index → Fits l.cells (get_or l.events k e))
    × ((n : ℕ) → ((k : ℕ) (e : Event) → k < l.event-index → Fits n (get_or l.events k e)) → l.cells ≤ n)
