use Rattle.std.proofs.Common.{List, refl, subst, sym}
use Rattle.std.specs.Prelude.{ℤ}
use Rattle.cilk_checker.specs.Judging.{Meant, meant}
use Rattle.cilk_serial.specs.Ran.{IsRunFault}
use Rattle.cilk_serial.specs.declared.fault.RunFault.{RunFault}
use Rattle.cilk_serial.specs.declared.fault.RunFault.TheVariants as stops
use Rattle.cilk_commands.specs.Replies.{Reply}
use Rattle.cilk_commands.specs.Serving.{Judged, Unjudged}
use Rattle.cilk_commands.specs.Shown.{RunShows, run_fault_view}
use Rattle.cilk_commands.proofs.Replying.{handed}
use Rattle.cilk_report.proofs.totals.totals_of.Goals as goal

-- the reply of a run that stops
shown : (m : Meant) (inputs : List ℤ) (f : RunFault) → IsRunFault m.source inputs f → RunShows m inputs (run_fault_view f)
shown m inputs stops.Memory h = (stops.Memory, refl, h)
shown m inputs (stops.At fault at) h = (stops.At fault at, refl, h)

pub returns-in_err-program-clause-failure : goal.returns-in_err-program-clause-failure
returns-in_err-program-clause-failure g c =
    handed c.from_residual.result c.in_err-program.field-0.0 _ c.from_residual.ensures.1 (Unjudged c.in_err-program.ensures.failure)

pub returns-clause-failure : goal.returns-clause-failure
returns-clause-failure g c =
    Judged (meant c.in_ok-program.program) c.in_ok-program.numbers c.in_ok-program.ensures.given (
      c.in_ok-program.ensures.uncounted,
      subst (λ (r : Reply). RunShows (meant c.in_ok-program.program) c.in_ok-program.numbers r) (sym c.stopped.ensures)
          (shown (meant c.in_ok-program.program) c.in_ok-program.numbers c.in-Err.fault c.in-Err.ensures.fault),
    )
