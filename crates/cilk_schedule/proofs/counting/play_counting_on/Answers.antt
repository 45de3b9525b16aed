use Rattle.std.proofs.Common.{[], subst}
use Rattle.cilk_program.specs.Syntax.{Source}
use Rattle.cilk_lower.specs.Behaves.{IsCodeOf}
use Rattle.cilk_schedule.specs.Playing.{ComesToFault, Ends, FailsAsSettled, IsFault, Leads}
use Rattle.cilk_schedule.proofs.Counted.{played_skips}
use Rattle.cilk_schedule.proofs.Following.{handed}
use Rattle.cilk_schedule.proofs.OneEnd.{settled_end, settled_fault}
use Rattle.cilk_schedule.proofs.Strictly.{same_tasks}
use Rattle.cilk_schedule.proofs.Whole.{failed_by, left_by}
use Rattle.cilk_schedule.proofs.counting.play_counting_on.Goals as goal

pub returns-in_err-skips-clause-fault : goal.returns-in_err-skips-clause-fault
returns-in_err-skips-clause-fault c =
    let made = c.in_ok-machine.ensures in
    let f = c.in_err-skips.field-0.0 in
    handed c.from_residual-in_err-skips.result f
    (λ f. (p : Source) → IsCodeOf p c.args.code.now → IsFault (Ends p c.args.input.now c.args.workers c.args.steps.now) f) c.from_residual-in_err-skips.ensures.1
    (λ p is. failed_by c.args.code.now p c.args.input.now c.args.workers c.args.steps.now c.in_ok-machine.machine f is made.of.0 made.of.1 (made.opened p is)
    (subst (λ ts. ComesToFault c.args.workers ts c.in_ok-machine.machine f) (same_tasks 16000000 c.args.steps.now) c.in_err-skips.ensures.fault))

pub returns-in_err-skips-clause-no_stop : goal.returns-in_err-skips-clause-no_stop
returns-in_err-skips-clause-no_stop c =
    let made = c.in_ok-machine.ensures in
    let f = c.in_err-skips.field-0.0 in
    handed c.from_residual-in_err-skips.result f (λ f. (p : Source) → IsCodeOf p c.args.code.now → FailsAsSettled p c.args.input.now f)
    c.from_residual-in_err-skips.ensures.1
    (λ p is. settled_fault p c.args.input.now c.args.workers c.args.steps.now f
    (failed_by c.args.code.now p c.args.input.now c.args.workers c.args.steps.now c.in_ok-machine.machine f is made.of.0 made.of.1 (made.opened p is)
    (subst (λ ts. ComesToFault c.args.workers ts c.in_ok-machine.machine f) (same_tasks 16000000 c.args.steps.now) c.in_err-skips.ensures.fault)))

pub returns-clause-left : goal.returns-clause-left
returns-clause-left c = λ p is.
    let made = c.in_ok-machine.ensures in
    let h = c.in_ok-skips.ensures.made in
    left_by c.args.code.now p c.args.input.now c.args.workers c.args.steps.now c.in_ok-machine.machine c.make_all.new.machine c.into_outcome-outcome.result is made.of.0 made.of.1 (made.opened p is)
    (subst (λ ts. Leads c.args.workers ts c.in_ok-machine.machine [] c.make_all.new.machine) (same_tasks 16000000 c.args.steps.now) h.led) c.into_outcome-outcome.ensures

pub returns-clause-skips : goal.returns-clause-skips
returns-clause-skips c = λ p is.
    let made = c.in_ok-machine.ensures in
    played_skips c.args.code.now p c.args.input.now c.args.workers _ c.in_ok-machine.machine c.make_all.new.machine c.in_ok-skips.skips is made.of.0 made.of.1 (made.opened p is) c.in_ok-skips.ensures.made

pub returns-clause-settled : goal.returns-clause-settled
returns-clause-settled c = λ p is.
    let l = returns-clause-left c p is in
    settled_end p c.args.input.now c.args.workers c.args.steps.now l.0 l.1 l.2 c.into_outcome-outcome.result l.3
