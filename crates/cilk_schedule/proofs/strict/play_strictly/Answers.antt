use Rattle.std.proofs.lemmas.Result.{IfOk-weaker}
use Rattle.cilk_program.specs.Sources.{source}
use Rattle.cilk_program.specs.Syntax.{Source}
use Rattle.cilk_lower.specs.Behaves.{IsCodeOf}
use Rattle.cilk_schedule.specs.Strict.{IsStrict}
use Rattle.cilk_schedule.proofs.Following.{if_err, on_ok}
use Rattle.cilk_schedule.proofs.strict.play_strictly.Goals as goal

of_program : (c : goal.After-drop-code) → IsCodeOf (source c.args.program.now) c.in_ok-code.code
of_program c = record { well = c.args.program.now.well_named; behaves = c.in_ok-code.ensures.asks; lays = c.in_ok-code.ensures.layout }

pub returns-clause-left : goal.returns-clause-left
returns-clause-left c = IfOk-weaker c.play_strictly_on.result _ _ (λ o h. h (source c.args.program.now) (of_program c)) c.play_strictly_on.ensures.left

pub returns-clause-all : goal.returns-clause-all
returns-clause-all c =
    on_ok c.play_strictly_on.result ((p : Source) → IsCodeOf p c.in_ok-code.code → IsStrict p c.args.input.now c.args.workers c.args.steps.now)
    (IsStrict (source c.args.program.now) c.args.input.now c.args.workers c.args.steps.now) (λ h. h (source c.args.program.now) (of_program c)) c.play_strictly_on.ensures.all

pub returns-clause-fault : goal.returns-clause-fault
returns-clause-fault c = if_err c.play_strictly_on.result _ _ (λ f h. h (source c.args.program.now) (of_program c)) c.play_strictly_on.ensures.fault

pub returns-clause-settled : goal.returns-clause-settled
returns-clause-settled c = IfOk-weaker c.play_strictly_on.result _ _ (λ left h. h (source c.args.program.now) (of_program c)) c.play_strictly_on.ensures.settled

pub returns-clause-no_stop : goal.returns-clause-no_stop
returns-clause-no_stop c = if_err c.play_strictly_on.result _ _ (λ f h. h (source c.args.program.now) (of_program c)) c.play_strictly_on.ensures.no_stop
