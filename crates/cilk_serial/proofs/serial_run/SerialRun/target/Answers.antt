use Rattle.std.proofs.Common.{None, refl, subst}
use Rattle.cilk_program.specs.Sources.{source}
use Rattle.cilk_frames.specs.Following.{child_of}
use Rattle.cilk_serial.specs.SoFar.{BeginsTarget, RunView}
use Rattle.cilk_serial.specs.Going.{Keeps}
use Rattle.cilk_serial.specs.declared.serial_run.Stage.{Stage}
use Rattle.cilk_serial.proofs.SoFar.{begins_next, begins_none}
use Rattle.cilk_serial.proofs.serial_run.SerialRun.target.Goals as goal

pub returns-in-Going : goal.returns-in-Going
returns-in-Going c =
    let r = c.self.inside in
    let p = source r.program.now in
    let going = subst (λ (s : Stage). Keeps r.code.now p r.input.now r.running s) c.in-Going.is c.self.invariant in
    subst (λ (v : RunView). BeginsTarget v c.target_of.result) c.self.view_is (record {
      callee = child_of r.running.ask;
      is = c.target_of.ensures;
      begins = λ intact. begins_next r.code.now p r.input.now r.running going;
    })

pub returns-in-Ended : goal.returns-in-Ended
returns-in-Ended c =
    let r = c.self.inside in
    let p = source r.program.now in
    let ended = subst (λ (s : Stage). Keeps r.code.now p r.input.now r.running s) c.in-Ended.is c.self.invariant in
    subst (λ (v : RunView). BeginsTarget v None) c.self.view_is (record { callee = None; is = refl; begins = λ intact. begins_none p r.input.now r.running.state c.in-Ended.field-0 ended })
