use Rattle.std.proofs.Common.{◌≡◌, ℕ, ◌-◌, ◌+◌, length}
use Rattle.cilk_trace.specs.Pages.{positions_of}
use Rattle.cilk_trace.proofs.histories.Histories.reach.Given as goal

abbrev pub invariant-grow : goal.invariant-grow
invariant-grow l = (c : ℕ) → positions_of l.self.pages.items c ≡ positions_of l.fn.self.pages.items c

abbrev pub decreases-grow : goal.decreases-grow
decreases-grow l = l.number + 1 - length l.self.pages.items
