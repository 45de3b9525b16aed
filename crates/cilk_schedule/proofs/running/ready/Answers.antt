use Rattle.std.proofs.Common.{◌≡◌, ◌∙◌, slice_get, Some, sym, ap}
use Rattle.cilk_scheduler.specs.Workers.{held_by}
use Rattle.cilk_scheduler.proofs.Placed.{there_at}
use Rattle.cilk_schedule.proofs.Workers.{is_held, some_of}
use Rattle.cilk_schedule.proofs.running.ready.Goals as goal

pub returns : goal.returns
returns c =
    let held : held_by c.args.scheduler.now.workers.items c.args.worker ≡ Some c.in_ok-frame.frame = ap (λ l. held_by l c.args.worker) (sym c.as_slice.ensures.value) ∙ sym c.held_by.ensures ∙ c.in_ok-frame.was in
    let w = is_held c.args.scheduler.now.workers.items c.args.worker c.in_ok-frame.frame held in
    let at = c.in_ok-frame_state.ensures.lookup in
    let here = there_at c.deref.result.now c.in_ok-frame.frame c.in_ok-frame_state.frame_state.now at.0 at.1 in
    let x = some_of c.in_ok-frame_state.frame_state.now.cursor.cursor c.if-is_none.ensures in
    record {
      held = held;
      first = w.0;
      last = w.1;
      frame_state = c.in_ok-frame_state.frame_state.now;
      sits = ap (λ l. slice_get l c.in_ok-frame.frame) (sym c.deref.ensures.value) ∙ here;
      cursor = x.0;
      has = x.1;
    }
