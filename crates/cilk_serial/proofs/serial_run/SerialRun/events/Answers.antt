use Rattle.std.proofs.Common.{subst}
use Rattle.cilk_serial.specs.SoFar.{IsIntact, IsSoFar, RunView}
use Rattle.cilk_program.specs.Sources.{source}
use Rattle.cilk_serial.proofs.SoFar.{kept_so_far}
use Rattle.cilk_serial.proofs.serial_run.SerialRun.events.Goals as goal

abbrev IsSoFarIn : RunView → Type 0
IsSoFarIn v = IsIntact v.stage → IsSoFar (source v.program) v.inputs v.events

pub returns-clause-so_far : goal.returns-clause-so_far
returns-clause-so_far c =
    let r = c.self.inside in
    subst IsSoFarIn c.self.view_is (λ intact. kept_so_far r.code.now (source r.program.now) r.input.now r.running r.stage c.self.invariant intact)
