use Rattle.std.proofs.Common.{◌-◌, ◌≤◌}
use Rattle.cilk_trace.specs.IntervalStacks.{IsAscending}
use Rattle.cilk_trace.specs.Pages.{positions_of}
use Rattle.cilk_trace.proofs.Meeting.{At}
use Rattle.cilk_trace.proofs.histories.Histories.meet.Given as goal

abbrev pub invariant-pages : goal.invariant-pages
invariant-pages l = record {
  at : IsAscending l.intervals.children → At l.intervals l.kind l.here l.fn.cells.first (positions_of l.fn.self.pages.items) (positions_of l.self.pages.items) l.at;
  within : l.at ≤ l.last;
}

abbrev pub decreases-pages : goal.decreases-pages
decreases-pages l = l.last - l.at
