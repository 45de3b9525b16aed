use Rattle.std.proofs.Common.{[], subst}
use Rattle.cilk_program.specs.Syntax.{Source}
use Rattle.cilk_lower.specs.Behaves.{IsCodeOf}
use Rattle.cilk_schedule.specs.Playing.{Leads}
use Rattle.cilk_schedule.specs.Strict.{FailsStrictlyAsSettled, IsStrictFault}
use Rattle.cilk_schedule.proofs.Following.{handed}
use Rattle.cilk_schedule.proofs.OneEnd.{settled_end}
use Rattle.cilk_schedule.proofs.Strictly.{same_tasks, strictly_failed, strictly_settled}
use Rattle.cilk_schedule.proofs.Whole.{left_by}
use Rattle.cilk_schedule.proofs.strict.play_strictly_on.Goals as goal

pub returns-in_err-make_all-clause-fault : goal.returns-in_err-make_all-clause-fault
returns-in_err-make_all-clause-fault c =
    let made = c.in_ok-machine.ensures in
    let f = c.in_err-make_all.field-0.0 in
    handed c.from_residual-in_err-make_all.result f
    (λ f. (p : Source) → IsCodeOf p c.args.code.now → IsStrictFault p c.args.input.now c.args.workers c.args.steps.now f) c.from_residual-in_err-make_all.ensures.1
    (λ p is. strictly_failed c.args.code.now p c.args.input.now c.args.workers c.args.steps.now c.in_ok-machine.machine f is made.of.0 made.of.1 (made.opened p is) c.in_err-make_all.ensures.fault)

pub returns-in_err-make_all-clause-no_stop : goal.returns-in_err-make_all-clause-no_stop
returns-in_err-make_all-clause-no_stop c =
    let made = c.in_ok-machine.ensures in
    let f = c.in_err-make_all.field-0.0 in
    handed c.from_residual-in_err-make_all.result f (λ f. (p : Source) → IsCodeOf p c.args.code.now → FailsStrictlyAsSettled p c.args.input.now f)
    c.from_residual-in_err-make_all.ensures.1
    (λ p is. strictly_settled p c.args.input.now c.args.workers c.args.steps.now f
    (strictly_failed c.args.code.now p c.args.input.now c.args.workers c.args.steps.now c.in_ok-machine.machine f is made.of.0 made.of.1 (made.opened p is) c.in_err-make_all.ensures.fault))

pub returns-clause-left : goal.returns-clause-left
returns-clause-left c = λ p is.
    let made = c.in_ok-machine.ensures in
    let h = c.in_ok-make_all.ensures.made in
    left_by c.args.code.now p c.args.input.now c.args.workers c.args.steps.now c.in_ok-machine.machine c.make_all.new.machine c.into_outcome.result is made.of.0 made.of.1 (made.opened p is)
    (subst (λ ts. Leads c.args.workers ts c.in_ok-machine.machine [] c.make_all.new.machine) (same_tasks 16000000 c.args.steps.now) h.led) c.into_outcome.ensures

pub returns-clause-settled : goal.returns-clause-settled
returns-clause-settled c = λ p is.
    let l = returns-clause-left c p is in
    settled_end p c.args.input.now c.args.workers c.args.steps.now l.0 l.1 l.2 c.into_outcome.result l.3
