use Rattle.std.proofs.Common.{sym, subst}
use Rattle.cilk_frames.specs.Sight.{HasScope}
use Rattle.cilk_frames.specs.declared.activation.Activation.{Activation}
use Rattle.cilk_scheduler.specs.declared.frame_state.FrameState.{FrameState}
use Rattle.cilk_scheduler.proofs.Placed.{there_is}
use Rattle.cilk_scheduler.proofs.reducers.instance_at.Goals as goal

pub instance-requires-clause-sees : goal.instance-requires-clause-sees
instance-requires-clause-sees c =
    let sees = c.requires.sees in
    let it = sees.1 in
    (sees.0, subst (λ (b : Activation FrameState). HasScope c.args.frames.now b sees.0) (sym (there_is c.args.frames.now c.args.frame c.index-frames-frame.result it.0 c.index-frames-frame.is it.1)) it.2)

pub returns : goal.returns
returns c = λ scope it. c.instance.ensures scope (subst (λ (b : Activation FrameState). HasScope c.args.frames.now b scope) (sym (there_is c.args.frames.now c.args.frame c.index-frames-frame.result it.0 c.index-frames-frame.is it.1)) it.2)
