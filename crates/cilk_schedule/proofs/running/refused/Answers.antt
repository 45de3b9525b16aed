use Rattle.std.proofs.Common.{◌∙◌, ap, slice_get, arith}
use Rattle.cilk_scheduler.proofs.Placed.{get_some}
use Rattle.cilk_schedule.proofs.running.refused.Goals as goal

pub overflow_add-ticks : goal.overflow_add-ticks
overflow_add-ticks c =
    let it = get_some c.args.scheduler.now.frames.items c.args.frame c.requires.here in
    let few = c.requires.few it.0 it.1 in
    let f0 = few.0 in
    let f1 = few.1 in
    let is = c.uncounted.ensures it.0 (ap (λ l. slice_get l c.args.frame) c.as_slice.ensures.value ∙ it.1) in
    omega (arith, f0, f1, is)
