use Rattle.std.proofs.Common.{arith, subst}
use Rattle.cilk_workers.specs.Activities.{IsExitReason}
use Rattle.cilk_threads.proofs.Popped.{more}
use Rattle.cilk_threads.proofs.pool.joined.Goals as goal

pub each-preserved : goal.each-preserved
each-preserved g c =
    let fewer = c.in-Some.ensures.fewer in
    let all = c.each.invariant.2 in
    let room = c.each.invariant.3 in
    let pushed = c.push_reserved.ensures in (
      c.last_handle.ensures.rest,
      more (IsExitReason c.args.shared.now) _ _ _ pushed.items c.each.invariant.1
          (subst (λ s. IsExitReason s c.join.result) c.in-Some.ensures.one c.join.ensures),
      omega (arith, fewer, all, pushed.len),
      omega (arith, room, pushed.capacity),
    )
