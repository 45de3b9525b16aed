use Rattle.std.proofs.Common.{◌≡◌, ℕ}
use Rattle.cilk_trace.specs.Pages.{kept_by}
use Rattle.cilk_trace.proofs.histories.Page.fit.Given as goal

abbrev pub invariant-finer : goal.invariant-finer
invariant-finer l = (c : ℕ) → kept_by l.self c ≡ kept_by l.fn.self c

abbrev pub decreases-finer : goal.decreases-finer
decreases-finer l = l.self.shift
