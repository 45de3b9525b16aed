use Rattle.std.proofs.Common.{[], ◌++◌, refl, sym, ap, ◌∙◌, subst, append-nil}
use Rattle.std.proofs.lemmas.List.Elements.{All-nil}
use Rattle.cilk_program.specs.Sources.{source}
use Rattle.cilk_serial.specs.SoFar.{BeginsNoFrame, IsIntact, IsSoFar, RunsOn, RunView}
use Rattle.cilk_serial.specs.declared.serial_run.Stage.TheVariants.{Going}
use Rattle.cilk_serial.proofs.SoFar.{kept_so_far}
use Rattle.cilk_serial.proofs.serial_run.SerialRun.run_on.Goals as goal

pub returns-in-Ended-clause-ok : goal.returns-in-Ended-clause-ok
returns-in-Ended-clause-ok c =
    let r = c.self.inside in
    subst (λ (v : RunView). RunsOn v v) c.self.view_is (record {
      program = refl;
      inputs = refl;
      more = [];
      events = sym (append-nil r.running.state.events.items);
      begins_none = All-nil BeginsNoFrame;
      so_far = kept_so_far r.code.now (source r.program.now) r.input.now r.running r.stage c.self.invariant (subst IsIntact (sym c.in-Ended.is) tt);
    })

pub returns-clause-ok : goal.returns-clause-ok
returns-clause-ok c =
    let r = c.self.inside in
    let later = c.in-Ok.ensures.later in
    record {
      program = ap (λ (v : RunView). v.program) c.self.view_is;
      inputs = ap (λ (v : RunView). v.inputs) c.self.view_is;
      more = later.0;
      events = later.1 ∙ ap (λ (v : RunView). v.events ++ later.0) c.self.view_is;
      begins_none = later.2;
      so_far = subst (λ (v : RunView). IsSoFar (source v.program) v.inputs c.run_on.new.self.state.events.items) c.self.view_is (kept_so_far r.code.now (source r.program.now) r.input.now c.run_on.new.self Going c.in-Ok.ensures.going tt);
    }
