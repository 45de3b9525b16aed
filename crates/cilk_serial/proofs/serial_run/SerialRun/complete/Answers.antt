use Rattle.std.proofs.Common.{[], ◌++◌, None, refl, sym, ap, ◌∙◌, subst, append-nil}
use Rattle.cilk_program.specs.Sources.{source}
use Rattle.cilk_serial.specs.Going.{Keeps, Halts}
use Rattle.cilk_serial.specs.declared.running.Halt.{Halt}
use Rattle.cilk_serial.specs.SoFar.{MakesRest, IsOver, RunView}
use Rattle.cilk_serial.specs.declared.serial_run.Stage.{Stage}
use Rattle.cilk_serial.proofs.SoFar.{ends}
use Rattle.cilk_serial.proofs.serial_run.SerialRun.complete.Goals as goal

pub returns-in-Ended-clause-ok : goal.returns-in-Ended-clause-ok
returns-in-Ended-clause-ok c =
    let r = c.self.inside in
    let p = r.program.now in
    let ended = subst (λ (s : Stage). Keeps r.code.now (source p) r.input.now r.running s) c.in-Ended.is c.self.invariant in
    let left = ends (source p) p.well_named r.input.now r.running.state c.in-Ended.field-0 ended in
    subst (λ (v : RunView). MakesRest v None v) c.self.view_is (record {
      program = refl;
      inputs = refl;
      later = ([], sym (append-nil r.running.state.events.items));
      halts = record { same = refl; over = subst IsOver (sym c.in-Ended.is) tt; outcome = left.0; ran = left.1 };
    })

pub returns-in-Ended-halt-clause-ok : goal.returns-in-Ended-halt-clause-ok
returns-in-Ended-halt-clause-ok c =
    let r = c.self.inside in
    let p = r.program.now in
    let halted = subst (λ (h : Halt). Halts r.code.now (source p) r.input.now c.complete.new.self h) c.in-Ended-halt.is c.in-Ok.ensures.halts in
    let left = ends (source p) p.well_named r.input.now c.complete.new.self.state c.in-Ended-halt.result halted in
    let later = c.in-Ok.ensures.later in
    record {
      program = ap (λ (v : RunView). v.program) c.self.view_is;
      inputs = ap (λ (v : RunView). v.inputs) c.self.view_is;
      later = (later.0, later.1 ∙ ap (λ (v : RunView). v.events ++ later.0) c.self.view_is);
      halts = record { same = refl; over = tt; outcome = left.0; ran = left.1 };
    }
