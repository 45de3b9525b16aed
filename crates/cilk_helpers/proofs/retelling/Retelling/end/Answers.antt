use Rattle.std.proofs.Common.{◌∙◌, subst}
use Rattle.cilk_program.specs.Sources.{source}
use Rattle.cilk_program.specs.SerialRun.{with_store}
use Rattle.cilk_serial.specs.declared.state.State.{State}
use Rattle.cilk_serial.specs.States.{Shows}
use Rattle.cilk_helpers.specs.Telling.{Closes}
use Rattle.cilk_helpers.proofs.Telling.{tells_last, tells_return}
use Rattle.cilk_helpers.proofs.retelling.Retelling.end.Goals as goal

pub returns-then-not-pop : goal.returns-then-not-pop
returns-then-not-pop c = λ code inputs x.
    let p = source c.args.program.now in
    let t = c.args.self.now in
    let s' = c.retire.new.state in
    let g = x.retold.going in
    let made = (c.in-Ok.ensures.makes g.memory (subst (λ (s : State). Shows s g.memory) x.state g.shows)).1 in
    let closes : Closes p t s' = record {
      events = c.retire.ensures.events ∙ made.events;
      cleared = λ m h. c.retire.ensures.shows (with_store m m.store) (c.in-Ok.ensures.makes m h).1.shows;
    } in
    tells_last code p inputs t (record { state = s'; frames = c.pop.new.self; asked = t.asked; left = t.left }) c.args.value x c.requires.room c.requires.ends closes (c.pop.ensures.none c.if-not-pop.true).0

pub returns : goal.returns
returns c = λ code inputs x.
    let p = source c.args.program.now in
    let t = c.args.self.now in
    let s' = c.retire.new.state in
    let g = x.retold.going in
    let made = (c.in-Ok.ensures.makes g.memory (subst (λ (s : State). Shows s g.memory) x.state g.shows)).1 in
    let closes : Closes p t s' = record {
      events = c.retire.ensures.events ∙ made.events;
      cleared = λ m h. c.retire.ensures.shows (with_store m m.store) (c.in-Ok.ensures.makes m h).1.shows;
    } in
    let took = c.in-Some.ensures in
    tells_return code p inputs t s' c.args.value c.pop.new.self c.take.new.self c.in-Some.taken x c.requires.room c.requires.ends closes (c.pop.ensures.some c.if-not-pop.false)
    (record { note = took.0; notes = took.1; before = took.2; after = took.3; told = took.4; asks = took.5; is = took.6 })
