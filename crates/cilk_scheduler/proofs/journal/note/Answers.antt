use Rattle.std.proofs.Common.{◌+◌, ◌<◌, ◌^◌, slice_get, sym, ap, ◌∙◌, subst, arith}
use Rattle.cilk_scheduler.proofs.Placed.{get_some}
use Rattle.cilk_scheduler.proofs.journal.note.Goals as goal

pub overflow_add-ticks : goal.overflow_add-ticks
overflow_add-ticks c =
    let it = get_some c.args.frames.now.items c.args.frame c.requires.here in
    let e = c.uncounted.ensures it.0 (ap (λ l. slice_get l c.args.frame) c.as_slice.ensures.value ∙ it.1) in
    let low : c.args.ticks + c.uncounted.result < 2 ^ 32 = subst (λ n. c.args.ticks + n < 2 ^ 32) (sym e) (c.requires.few it.0 it.1) in
    omega (arith, low)
