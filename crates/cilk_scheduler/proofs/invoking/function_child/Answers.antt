use Rattle.std.proofs.Common.{◌+◌, Result, Ok, Err, IfOk, sym, ap, ◌∙◌, subst}
use Rattle.cilk_frames.specs.Sight.{HasScope}
use Rattle.cilk_frames.specs.declared.activation.Activation.{Activation}
use Rattle.cilk_scheduler.specs.FrameStates.{seated}
use Rattle.cilk_scheduler.specs.declared.frame_state.FrameState.{FrameState}
use Rattle.cilk_scheduler.proofs.Placed.{there_is}
use Rattle.cilk_scheduler.proofs.invoking.function_child.Goals as goal

both : {A E : Type 0} (P Q : A → Type 0) (r : Result A E) → IfOk r P → IfOk r Q → IfOk r (λ x. P x × Q x)
both P Q (Ok x) p q = (p, q)
both P Q (Err e) p q = tt

if_ok : {A E : Type 0} {P Q : A → Type 0} (r : Result A E) → IfOk r P → ((x : A) → P x → Q x) → IfOk r Q
if_ok (Ok x) p f = f x p
if_ok (Err e) p f = tt

pub returns : goal.returns
returns c =
    let e = c.function.ensures in
    let r = c.function.result in
    if_ok r (both _ _ r (both _ _ r (both _ _ r e.cursor e.number) (both _ _ r e.base e.creator)) (both _ _ r e.sees e.result)) (λ a h. record {
      cursor = c.in_ok-cursor.cursor;
      stands = c.in_ok-cursor.ensures.stands;
      owes = c.in_ok-cursor.ensures.owes;
      frame_state = λ top at. h.0.0.0 ∙ c.new-frame_state.ensures ∙ ap (λ (t : Activation FrameState). seated c.args.starter.frame (let x = t.cursor in x.children + 1) c.args.how c.args.starter.worker c.in_ok-cursor.cursor) (there_is c.args.frames.now c.args.starter.frame c.index-frames-here.result top c.index-frames-here.is at);
      number = h.0.0.1;
      base_is = h.0.1.0;
      sees = λ p scope it. h.1.0 p scope c.args.frames.now (subst (λ (b : Activation FrameState). HasScope c.args.frames.now b scope) (sym (there_is c.args.frames.now c.args.starter.frame c.index-frames-here.result it.0 c.index-frames-here.is it.1)) it.2);
      result = λ scope it. h.1.1 scope (subst (λ (b : Activation FrameState). HasScope c.args.frames.now b scope) (sym (there_is c.args.frames.now c.args.starter.frame c.index-frames-here.result it.0 c.index-frames-here.is it.1)) it.2);
      creator = h.0.1.1;
    })
