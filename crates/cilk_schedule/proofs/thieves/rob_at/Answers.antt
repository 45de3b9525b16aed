use Rattle.std.proofs.Common.{◌≡◌, refl, sym, ap, ap₂, ◌∙◌, arith}
use Rattle.cilk_schedule.proofs.Sounds.{quiet_twice}
use Rattle.cilk_schedule.proofs.Quieting.{joins, robs}
use Rattle.cilk_schedule.proofs.Standing.{on_err_stand, stand_joined}
use Rattle.cilk_frames.specs.declared.activation.Activation.{Activation}
use Rattle.cilk_scheduler.specs.FrameStates.{changed, robbed}
use Rattle.cilk_scheduler.specs.declared.frame_state.FrameState.{FrameState}
use Rattle.cilk_scheduler.proofs.Changing.{changed_at}
use Rattle.cilk_scheduler.proofs.Placed.{get_there}
use Rattle.cilk_schedule.proofs.Workers.{same_at}
use Rattle.cilk_schedule.proofs.thieves.rob_at.Goals as goal

pub returns-clause-quiet : goal.returns-clause-quiet
returns-clause-quiet c =
    let w = c.in_ok-await_last.ensures.awaits in
    let low = c.requires.last c.index.result.now (get_there c.args.frames.now.items c.args.frame c.index.result.now c.index.ensures c.requires.here) in
    let still = joins c.await_last.new.frame_state c.args.frames.now.items _ c.args.frame c.index_mut.result.now c.index_mut.ensures.value c.requires.here w.1 refl in
    let same = still.2 in
    quiet_twice c.args.frames.now.items _ c.rob.new.frames.items still (robs _ c.rob.new.frames.items c.index.result.now.cursor.last (omega (arith, low, same)) c.rob.ensures)

pub returns-clause-robs : goal.returns-clause-robs
returns-clause-robs c =
    let w = c.in_ok-await_last.ensures.awaits in
    let list = c.args.frames.now.items in
    let a = c.index_mut.result.now in
    let here = get_there list c.args.frame a c.index_mut.ensures.value c.requires.here in
    let first = get_there list c.args.frame c.index.result.now c.index.ensures c.requires.here in
    let same : a ≡ c.index.result.now = same_at list c.args.frame a c.index.result.now here first in
    let last : c.index.result.now.cursor.last ≡ c.await_last.new.frame_state.last = sym (ap (λ (z : Activation FrameState). let x = z.cursor in x.last) same) ∙ sym (ap (λ (x : FrameState). x.last) w.1) in
    record {
      frame_state = a;
      awaiting = c.await_last.new.frame_state;
      sits = here;
      awaits = w;
      frames_are = c.rob.ensures ∙ ap₂ (λ l n. changed robbed l n) (changed_at (λ _. c.await_last.new.frame_state) list c.args.frame a c.index_mut.ensures.value c.requires.here) last;
    }

pub returns-in_err-await_last-clause-stands : goal.returns-in_err-await_last-clause-stands
returns-in_err-await_last-clause-stands c =
    on_err_stand _ c.args.frames.now.items _ (stand_joined c.await_last.new.frame_state c.args.frames.now.items _ c.args.frame c.index_mut.result.now c.index_mut.ensures.value c.requires.here c.await_last.ensures.same refl)
