use Rattle.std.proofs.Common.{◌≡◌, length}
use Rattle.cilk_trace.specs.IntervalStacks.{IsAscending}
use Rattle.cilk_trace.specs.Pages.{positions_at}
use Rattle.cilk_trace.proofs.Meeting.{At}
use Rattle.cilk_trace.proofs.histories.Page.meet_grains.Given as goal

abbrev pub invariant-each : goal.invariant-each
invariant-each l = record {
  same : length l.self.grains.items ≡ length l.fn.self.grains.items;
  shift : l.self.shift ≡ l.fn.self.shift;
  at : IsAscending l.intervals.children → At l.intervals l.kind l.here l.fn.from (positions_at l.fn.self.grains.items) (positions_at l.self.grains.items) l.place;
}
