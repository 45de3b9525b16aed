use Rattle.std.proofs.Common.{ℤ, List, sym, subst, refl}
use Rattle.cilk_program.specs.declared.ask.Ask.TheVariants as asks
use Rattle.cilk_frames.specs.declared.cursor.Answer.TheVariants as answers
use Rattle.cilk_scheduler.specs.Events.{SeesAt}
use Rattle.cilk_scheduler.specs.FrameStates.{answered}
use Rattle.cilk_schedule.proofs.Answering.{on_ok, settles, ticks}
use Rattle.cilk_schedule.proofs.Coming.{reducer_small, sees_there}
use Rattle.cilk_types.specs.declared.event.Event.TheVariants as numbered
use Rattle.cilk_schedule.specs.Acts as does
use Rattle.cilk_schedule.specs.Acts.{Acts, MakesEvent}
use Rattle.cilk_schedule.proofs.Stepping.{made}
use Rattle.cilk_monoid.specs.Kinds.{structure_of}
use Rattle.cilk_hypermap.specs.Hypermap.{value_in}
use Rattle.cilk_schedule.proofs.events.value.Goals as goal

pub instance_at-instance-requires-clause-sees : goal.instance_at-instance-requires-clause-sees
instance_at-instance-requires-clause-sees c =
    let h = c.requires.comes in
    let t = sees_there c.args.frames.now.items h.0 c.args.frame (asks.Value c.args.reducer) c.requires.here h.1 in
    (t.0, subst (λ l. SeesAt l c.args.frame t.0) (sym c.as_slice.ensures.value) t.1)

pub instance_at-instance-requires-clause-small : goal.instance_at-instance-requires-clause-small
instance_at-instance-requires-clause-small c =
    let h = c.requires.comes in
    reducer_small c.args.frames.now.items h.0 c.args.frame (asks.Value c.args.reducer) _ (λ p fr q. q) c.requires.here h.1

pub returns-clause-settles : goal.returns-clause-settles
returns-clause-settles c =
    on_ok c.value.result c.value.ensures.frames
    (λ is cells. settles (answers.Value _) c.args.frames.now.items c.value.new.frames.items cells cells c.args.frame (asks.Value c.args.reducer) tt tt c.requires.here is refl)

pub returns-clause-ticks : goal.returns-clause-ticks
returns-clause-ticks c = on_ok c.value.result c.value.ensures.frames (λ is. ticks (answers.Value _) c.args.frames.now.items c.value.new.frames.items c.args.frame is)

pub returns-clause-makes : goal.returns-clause-makes
returns-clause-makes c =
    let f = c.args.frames.now.items in
    let g = c.value.new.frames.items in
    let v = c.args.views.now in
    let w = c.value.new.views in
    let i = c.instance_at-instance.result in
    let r = c.args.reducer in
    let x = (structure_of r.kind).number (value_in v r.kind i) in
    made c.value.result (numbered.Value i x) _ _ (λ e. (cells : List ℤ) → MakesEvent f g cells cells v w c.args.frame (asks.Value c.args.reducer) e) c.value.ensures.event c.value.ensures.views c.value.ensures.frames
    (λ to is cells. (answered (answers.Value x), does.values c.args.reducer x i w (λ scope sees. c.instance_at-instance.ensures scope (subst (λ z. SeesAt z c.args.frame scope) (sym c.as_slice.ensures.value) sees)) refl to, is))
