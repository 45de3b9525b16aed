use Rattle.std.proofs.Common.{◌≡◌, ℤ, Option, IfSome, subst, w64, SFits, rules}
use Rattle.std.proofs.lemmas.Int.{to_z-of_z}
use Rattle.cilk_program.specs.Sources.{source}
use Rattle.cilk_serial.specs.Going.{Keeps}
use Rattle.cilk_serial.specs.declared.serial_run.Stage.{Stage}
use Rattle.cilk_serial.specs.declared.serial_run.Stage.TheVariants.{Ended}
use Rattle.cilk_serial.proofs.Driving.{ended_as}
use Rattle.cilk_serial.proofs.serial_run.SerialRun.finish.Goals as goal

pub outcome-requires : goal.outcome-requires
outcome-requires c =
    let r = c.self.inside in
    let p = source r.program.now in
    let v = c.unwrap-result.result in
    let is = subst (λ (o : Option ℤ). IfSome o (λ v. r.stage ≡ Ended v)) c.unwrap-result.ensures c.result.ensures.value in
    let fits : SFits w64 v = search rules in
    let ended = subst (λ (s : Stage). Keeps r.code.now p r.input.now r.running s) is c.self.invariant in
    (r.input.now, ended_as p r.input.now _ _ v _ c.into_state.ensures (to_z-of_z w64 v fits) ended)
