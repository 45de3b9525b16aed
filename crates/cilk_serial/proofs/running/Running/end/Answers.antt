use Rattle.std.proofs.Common.{Err, refl, reverse, ap, subst, ◌∙◌, w64}
use Rattle.std.proofs.lemmas.Int.{to_z-of_z}
use Rattle.cilk_types.specs.declared.event.Event.TheVariants as events
use Rattle.cilk_program.specs.Sources.{source}
use Rattle.cilk_program.specs.SerialRun.{refused, with_store}
use Rattle.cilk_frames.specs.declared.cursor.Answer.{Answer}
use Rattle.cilk_serial.specs.declared.state.Refused.{Refused}
use Rattle.cilk_serial.specs.declared.state.State.{State}
use Rattle.cilk_serial.specs.Scoped.{waiting}
use Rattle.cilk_serial.specs.States.{Fills}
use Rattle.cilk_serial.proofs.Driving.{allowed, closes, ended_as, last_ends, resumes, stops_full}
use Rattle.cilk_serial.proofs.Homes.{waiting_more}
use Rattle.cilk_serial.proofs.running.Running.end.Goals as goal

pub returns-then-not-goes_on : goal.returns-then-not-goes_on
returns-then-not-goes_on c =
    let p = c.args.program.now in
    let r = c.args.self.now in
    let v = c.args.value in
    let g = c.requires.going in
    let made = (c.in-Ok.ensures.makes g.memory g.shows).1 in
    let s = c.retire.new.state in (
      ended_as (source p) c.args.input.now s s v _ refl (to_z-of_z w64 v c.ranges.value) (last_ends c.args.code.now (source p) c.args.input.now s v r.left (waiting r.frames)
          (closes c.args.code.now (source p) c.args.input.now r s v g (allowed (source p) r.state r.ask (λ m. ap (λ k. refused (source p) m k) c.requires.ends) c.in-Ok.ensures.room) c.requires.ends (c.retire.ensures.events ∙ made.events)
          (λ m h. c.retire.ensures.shows (with_store m m.store) (c.in-Ok.ensures.makes m h).1.shows))
          (ap reverse (c.pop-goes_on.ensures.none c.if-not-goes_on.true).0)),
      (events.End, c.retire.ensures.events ∙ made.events),
    )

pub returns : goal.returns
returns c =
    let p = c.args.program.now in
    let r = c.args.self.now in
    let g = c.requires.going in
    let made = (c.in-Ok.ensures.makes g.memory g.shows).1 in
    let frames = c.pop-goes_on.new.self in
    let s = c.retire.new.state in (
      resumes c.args.code.now (source p) c.args.input.now s c.args.value r.left (waiting r.frames) frames c.step_into.new.cursor c.step_into.new.asked c.step_into.new.left
          (closes c.args.code.now (source p) c.args.input.now r s c.args.value g (allowed (source p) r.state r.ask (λ m. ap (λ k. refused (source p) m k) c.requires.ends) c.in-Ok.ensures.room) c.requires.ends (c.retire.ensures.events ∙ made.events)
          (λ m h. c.retire.ensures.shows (with_store m m.store) (c.in-Ok.ensures.makes m h).1.shows))
          (waiting_more frames.below.items r.frames.below.items frames.top (c.pop-goes_on.ensures.some c.if-not-goes_on.false)) (c.step_into.ensures.stands (source p)),
      (events.End, c.retire.ensures.events ∙ made.events),
    )

pub returns-in-Err-Full : goal.returns-in-Err-Full
returns-in-Err-Full c =
    let p = c.args.program.now in
    let r = c.args.self.now in
    let full = subst (λ (x : Refused). Fills {A = Answer} (Err x) r.state.events.items r.state c.make.new.self) c.in-Err-Full.field-0-is c.in-Err-Full.ensures.room in (
      ap (λ (s : State). record { state = s; frames = r.frames; ask = r.ask; left = r.left }) full.0,
      stops_full c.args.code.now (source p) c.args.input.now r p.well_named c.requires.going (λ m. ap (λ k. refused (source p) m k) c.requires.ends) full.1,
    )
