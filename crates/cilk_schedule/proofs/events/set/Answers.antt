use Rattle.std.proofs.Common.{◌≡◌, ℤ, List, sym, subst, refl}
use Rattle.std.proofs.Common.{to_z, of_z, w64, rules, IfOk}
use Rattle.cilk_types.specs.Word.{IsWord}
use Rattle.cilk_program.specs.declared.ask.Ask.TheVariants as asks
use Rattle.cilk_frames.specs.declared.cursor.Answer.TheVariants as answers
use Rattle.cilk_scheduler.specs.Events.{SeesAt}
use Rattle.cilk_scheduler.specs.FrameStates.{answered}
use Rattle.cilk_schedule.proofs.Answering.{on_ok, settles, ticks}
use Rattle.cilk_schedule.proofs.Coming.{reducer_small, sees_there}
use Rattle.cilk_types.specs.declared.event.Event.TheVariants as numbered
use Rattle.cilk_schedule.specs.Acts as does
use Rattle.cilk_schedule.specs.Acts.{Acts, MakesEvent}
use Rattle.cilk_schedule.proofs.Stepping.{made}
use Rattle.cilk_schedule.proofs.events.set.Goals as goal

pub instance_at-instance-requires-clause-sees : goal.instance_at-instance-requires-clause-sees
instance_at-instance-requires-clause-sees c =
    let h = c.requires.comes in
    let t = sees_there c.args.frames.now.items h.0 c.args.frame (asks.Set c.args.reducer c.args.word) c.requires.here h.1 in
    (t.0, subst (λ l. SeesAt l c.args.frame t.0) (sym c.as_slice.ensures.value) t.1)

pub instance_at-instance-requires-clause-small : goal.instance_at-instance-requires-clause-small
instance_at-instance-requires-clause-small c =
    let h = c.requires.comes in
    reducer_small c.args.frames.now.items h.0 c.args.frame (asks.Set c.args.reducer c.args.word) _ (λ p fr q. q) c.requires.here h.1

pub returns-clause-settles : goal.returns-clause-settles
returns-clause-settles c =
    on_ok c.set.result c.set.ensures.frames
    (λ is cells. settles answers.Done c.args.frames.now.items c.set.new.frames.items cells cells c.args.frame (asks.Set c.args.reducer c.args.word) tt tt c.requires.here is refl)

pub returns-clause-ticks : goal.returns-clause-ticks
returns-clause-ticks c = on_ok c.set.result c.set.ensures.frames (λ is. ticks answers.Done c.args.frames.now.items c.set.new.frames.items c.args.frame is)

pub returns-clause-makes : goal.returns-clause-makes
returns-clause-makes c =
    let x : ℤ = to_z w64 (of_z w64 c.args.word) in
    let same : x ≡ c.args.word = search rules in
    let f = c.args.frames.now.items in
    let g = c.set.new.frames.items in
    let v = c.args.views.now in
    let w = c.set.new.views in
    let i = c.instance_at-instance.result in
    subst (λ v. IfOk c.set.result (λ e. (cells : List ℤ) → MakesEvent f g cells cells c.args.views.now c.set.new.views c.args.frame (asks.Set c.args.reducer v) e)) same
    (made c.set.result (numbered.Set i x) _ _ (λ e. (cells : List ℤ) → MakesEvent f g cells cells v w c.args.frame (asks.Set c.args.reducer x) e) c.set.ensures.event c.set.ensures.views c.set.ensures.frames
    (λ to is cells. (answered answers.Done, does.sets c.args.reducer x i w (subst IsWord (sym same) c.ranges.word) (λ scope sees. c.instance_at-instance.ensures scope (subst (λ z. SeesAt z c.args.frame scope) (sym c.as_slice.ensures.value) sees)) to, is)))
