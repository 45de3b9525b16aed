use Rattle.std.proofs.Common.{◌-◌, ◌≤◌, length}
use Rattle.cilk_trace.specs.IntervalStacks.{IsAscending}
use Rattle.cilk_trace.proofs.BinarySearch.{Searched}
use Rattle.cilk_trace.proofs.intervals.Intervals.has.Given as goal

abbrev pub invariant-loop-low : goal.invariant-loop-low
invariant-loop-low l = record {
  within : l.high ≤ length l.self.children;
  ordered : l.low ≤ l.high;
  searched : IsAscending l.self.children → Searched l.self.children l.line l.low l.high;
}

abbrev pub decreases-loop-low : goal.decreases-loop-low
decreases-loop-low l = l.high - l.low
