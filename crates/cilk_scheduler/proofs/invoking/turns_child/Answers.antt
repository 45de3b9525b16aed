use Rattle.std.proofs.Common.{◌+◌, sym, ap, ◌∙◌, subst}
use Rattle.cilk_frames.specs.Sight.{HasScope}
use Rattle.cilk_frames.specs.declared.activation.Activation.{Activation}
use Rattle.cilk_scheduler.specs.FrameStates.{seated}
use Rattle.cilk_scheduler.specs.declared.frame_state.FrameState.{FrameState}
use Rattle.cilk_scheduler.proofs.Placed.{there_is, get_there}
use Rattle.cilk_scheduler.proofs.invoking.turns_child.Goals as goal

pub returns : goal.returns
returns c = record {
  cursor = c.in_ok-cursor.cursor;
  stands = c.in_ok-cursor.ensures.stands;
  owes = c.in_ok-cursor.ensures.owes;
  frame_state = λ top at. c.turns-child.ensures.cursor ∙ c.new-frame_state.ensures ∙ ap (λ (t : Activation FrameState). seated c.args.starter.frame (let x = t.cursor in x.children + 1) c.args.how c.args.starter.worker c.in_ok-cursor.cursor) (there_is c.args.frames.now c.args.starter.frame c.index-frames-here.result top c.index-frames-here.is at);
  number = c.turns-child.ensures.number;
  base_is = c.turns-child.ensures.base;
  sees = λ p scope it. c.turns-child.ensures.sees p scope c.args.frames.now (get_there c.args.frames.now c.args.starter.frame c.index-frames-here.result c.index-frames-here.is c.requires.here)
      (subst (λ (b : Activation FrameState). HasScope c.args.frames.now b scope) (sym (there_is c.args.frames.now c.args.starter.frame c.index-frames-here.result it.0 c.index-frames-here.is it.1)) it.2);
  result = λ scope it. c.turns-child.ensures.result;
  creator = c.turns-child.ensures.creator;
}
