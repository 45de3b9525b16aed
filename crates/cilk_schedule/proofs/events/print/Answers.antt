use Rattle.std.proofs.Common.{◌≡◌, ℤ, List, sym, subst, refl}
use Rattle.std.proofs.Common.{to_z, of_z, w64, rules, IfOk}
use Rattle.cilk_types.specs.Word.{IsWord}
use Rattle.cilk_program.specs.declared.ask.Ask.TheVariants as asks
use Rattle.cilk_frames.specs.declared.cursor.Answer.TheVariants as answers
use Rattle.cilk_scheduler.specs.FrameStates.{answered}
use Rattle.cilk_schedule.proofs.Answering.{on_ok, settles, ticks}
use Rattle.cilk_types.specs.declared.event.Event.TheVariants as numbered
use Rattle.cilk_schedule.specs.Acts as does
use Rattle.cilk_schedule.specs.Acts.{Acts, MakesEvent}
use Rattle.cilk_schedule.proofs.Stepping.{made}
use Rattle.cilk_schedule.proofs.events.print.Goals as goal

pub returns-clause-settles : goal.returns-clause-settles
returns-clause-settles c =
    on_ok c.print.result c.print.ensures.frames
    (λ is cells. settles answers.Done c.args.frames.now.items c.print.new.frames.items cells cells c.args.frame (asks.Print c.args.word) tt tt c.requires.here is refl)

pub returns-clause-ticks : goal.returns-clause-ticks
returns-clause-ticks c = on_ok c.print.result c.print.ensures.frames (λ is. ticks answers.Done c.args.frames.now.items c.print.new.frames.items c.args.frame is)

pub returns-clause-makes : goal.returns-clause-makes
returns-clause-makes c =
    let x : ℤ = to_z w64 (of_z w64 c.args.word) in
    let same : x ≡ c.args.word = search rules in
    let f = c.args.frames.now.items in
    let g = c.print.new.frames.items in
    let v = c.args.views.now in
    let w = c.print.new.views in
    subst (λ v. IfOk c.print.result (λ e. (cells : List ℤ) → MakesEvent f g cells cells c.args.views.now c.print.new.views c.args.frame (asks.Print v) e)) same
    (made c.print.result (numbered.Print x) _ _ (λ e. (cells : List ℤ) → MakesEvent f g cells cells v w c.args.frame (asks.Print x) e) c.print.ensures.event c.print.ensures.views c.print.ensures.frames
    (λ to is cells. (answered answers.Done, does.prints x w (subst IsWord (sym same) c.ranges.word) to, is)))
