use Rattle.std.proofs.lemmas.Result.{IfOk-weaker}
use Rattle.cilk_program.specs.Sources.{source}
use Rattle.cilk_lower.specs.Behaves.{IsCodeOf}
use Rattle.cilk_schedule.proofs.Following.{if_err}
use Rattle.cilk_schedule.proofs.counting.play_counting.Goals as goal

of_program : (c : goal.After-drop-code) → IsCodeOf (source c.args.program.now) c.in_ok-code.code
of_program c = record { well = c.args.program.now.well_named; behaves = c.in_ok-code.ensures.asks; lays = c.in_ok-code.ensures.layout }

pub returns-clause-left : goal.returns-clause-left
returns-clause-left c = IfOk-weaker c.play_counting_on.result _ _ (λ o h. h (source c.args.program.now) (of_program c)) c.play_counting_on.ensures.left

pub returns-clause-skips : goal.returns-clause-skips
returns-clause-skips c = IfOk-weaker c.play_counting_on.result _ _ (λ o h. h (source c.args.program.now) (of_program c)) c.play_counting_on.ensures.skips

pub returns-clause-fault : goal.returns-clause-fault
returns-clause-fault c = if_err c.play_counting_on.result _ _ (λ f h. h (source c.args.program.now) (of_program c)) c.play_counting_on.ensures.fault

pub returns-clause-settled : goal.returns-clause-settled
returns-clause-settled c = IfOk-weaker c.play_counting_on.result _ _ (λ left h. h (source c.args.program.now) (of_program c)) c.play_counting_on.ensures.settled

pub returns-clause-no_stop : goal.returns-clause-no_stop
returns-clause-no_stop c = if_err c.play_counting_on.result _ _ (λ f h. h (source c.args.program.now) (of_program c)) c.play_counting_on.ensures.no_stop
