use Rattle.std.proofs.Common.{◌∷◌, [], ◌++◌, refl, sym, ap, ◌∙◌, subst}
use Rattle.cilk_types.specs.declared.event.Event.{Event}
use Rattle.cilk_program.specs.Sources.{source}
use Rattle.cilk_serial.specs.Going.{Keeps, Progresses}
use Rattle.cilk_serial.specs.declared.running.Step.{Step}
use Rattle.cilk_serial.specs.SoFar.{EndsNext, IsOver, IsSoFar, RunView}
use Rattle.cilk_serial.specs.declared.serial_run.Stage.{Stage}
use Rattle.cilk_serial.specs.declared.serial_run.Stage.TheVariants.{Going, Ended}
use Rattle.cilk_serial.proofs.SoFar.{ends, kept_so_far}
use Rattle.cilk_serial.proofs.serial_run.SerialRun.next.Goals as goal

pub returns-in-Ended-clause-ok : goal.returns-in-Ended-clause-ok
returns-in-Ended-clause-ok c =
    let r = c.self.inside in
    let p = r.program.now in
    let ended = subst (λ (s : Stage). Keeps r.code.now (source p) r.input.now r.running s) c.in-Ended.is c.self.invariant in
    let left = ends (source p) p.well_named r.input.now r.running.state c.in-Ended.field-0 ended in
    subst (λ (v : RunView). EndsNext v v) c.self.view_is (record { same = refl; over = subst IsOver (sym c.in-Ended.is) tt; outcome = left.0; ran = left.1 })

pub returns-in-Made-clause-ok : goal.returns-in-Made-clause-ok
returns-in-Made-clause-ok c =
    let r = c.self.inside in
    let made = subst (λ (s : Step). Progresses r.code.now (source r.program.now) r.input.now r.running s c.step.new.self) c.in-Made.is c.step.ensures in
    let event = c.last_event.ensures r.running.state.events.items made.1.0 made.1.1 in
    record {
      program = ap (λ (v : RunView). v.program) c.self.view_is;
      inputs = ap (λ (v : RunView). v.inputs) c.self.view_is;
      events = made.1.1 ∙ ap (λ (e : Event). r.running.state.events.items ++ e ∷ []) (sym event) ∙ ap (λ (v : RunView). v.events ++ c.last_event.result ∷ []) c.self.view_is;
      so_far = subst (λ (v : RunView). IsSoFar (source v.program) v.inputs c.step.new.self.state.events.items) c.self.view_is (kept_so_far r.code.now (source r.program.now) r.input.now c.step.new.self Going made.0 tt);
    }

pub returns-in-Last-clause-ok : goal.returns-in-Last-clause-ok
returns-in-Last-clause-ok c =
    let r = c.self.inside in
    let made = subst (λ (s : Step). Progresses r.code.now (source r.program.now) r.input.now r.running s c.step.new.self) c.in-Last.is c.step.ensures in
    let event = c.last_event-in-Last.ensures r.running.state.events.items made.1.0 made.1.1 in
    record {
      program = ap (λ (v : RunView). v.program) c.self.view_is;
      inputs = ap (λ (v : RunView). v.inputs) c.self.view_is;
      events = made.1.1 ∙ ap (λ (e : Event). r.running.state.events.items ++ e ∷ []) (sym event) ∙ ap (λ (v : RunView). v.events ++ c.last_event-in-Last.result ∷ []) c.self.view_is;
      so_far = subst (λ (v : RunView). IsSoFar (source v.program) v.inputs c.step.new.self.state.events.items) c.self.view_is (kept_so_far r.code.now (source r.program.now) r.input.now c.step.new.self (Ended c.in-Last.result) made.0 tt);
    }
