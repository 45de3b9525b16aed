use Rattle.std.proofs.Common.{◌≤◌, refl}
use Rattle.std.proofs.Math.Nat.{le_trans}
use Rattle.cilk_threads.specs.Answers.{tells}
use Rattle.cilk_threads.proofs.Popped.{more}
use Rattle.cilk_threads.proofs.pool.best.Goals as goal

pub each-preserved : goal.each-preserved
each-preserved c =
    let better = c.better-best.ensures in (
      better.reason,
      more (λ r. tells r ≤ tells c.better-best.result) c.each.yielded _ c.in-Some.reason refl
          (λ k d lt. le_trans (c.each.invariant.1 k d lt) better.more.0) better.more.1,
    )
