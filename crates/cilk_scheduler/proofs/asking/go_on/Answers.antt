use Rattle.std.proofs.Common.{subst}
use Rattle.cilk_frames.specs.declared.activation.Activation.{Activation}
use Rattle.cilk_scheduler.specs.declared.frame_state.FrameState.{FrameState}
use Rattle.cilk_scheduler.specs.Asking.{WentOn}
use Rattle.cilk_scheduler.proofs.Changing.{changed_at}
use Rattle.cilk_scheduler.proofs.Placed.{there_is}
use Rattle.cilk_scheduler.proofs.asking.go_on.Goals as goal

pub returns : goal.returns
returns g c = λ a at.
    let is = there_is c.args.frames.now.items c.args.frame c.index_mut.result.now a c.index_mut.ensures.value at in (
      c.advance.new.frame_state,
      subst (λ (b : Activation FrameState). WentOn c.args.code.now c.args.input.now b.cursor c.advance.new.asked c.advance.new.frame_state) is c.advance.ensures,
      changed_at (λ (y : FrameState). c.advance.new.frame_state) c.args.frames.now.items c.args.frame c.index_mut.result.now c.index_mut.ensures.value c.requires.here,
    )
