use Rattle.std.proofs.Common.{ℕ, ℤ, sym, subst}
use Rattle.std.specs.Prelude.{Result, IfOk, IfErr}
use Rattle.cilk_shared.specs.Pieces.{PieceValue}
use Rattle.cilk_workers.specs.Activities.{IsExitReason}
use Rattle.cilk_workers.specs.Shared.{SharedValue}
use Rattle.cilk_workers.specs.Turns.{HasEnded}
use Rattle.cilk_workers.specs.declared.activity.ExitReason.{ExitReason}
use Rattle.cilk_workers.specs.declared.activity.ExitReason.TheVariants as reasons
use Rattle.cilk_threads.specs.declared.run.ThreadFault.{ThreadFault}
use Rattle.cilk_threads.specs.Answers.{answer_of}
use Rattle.cilk_threads.specs.Faults.{IsPool, IsTrueFault}
use Rattle.cilk_threads.proofs.run.run_as.Goals as goal

ended : (y : SharedValue) (e : ExitReason) → IsExitReason y e → IfOk (answer_of e) (λ r. HasEnded y r.0 r.1)
ended y reasons.Stopped h = tt
ended y reasons.OutOfMemory h = tt
ended y (reasons.Departed p) h = tt
ended y (reasons.Whole p value) h = h

failed : (y : SharedValue) (n : ℕ) (e : ExitReason) → IsPool n → IsExitReason y e → IfErr (answer_of e) (IsTrueFault y.run.event_order n)
failed y n reasons.Stopped pool h = pool
failed y n reasons.OutOfMemory pool h = pool
failed y n (reasons.Departed p) pool h = (pool, h)
failed y n (reasons.Whole p value) pool h = tt

pub returns-clause-ok : goal.returns-clause-ok
returns-clause-ok g c =
    let y = c.args.shared.now in
    subst (λ (a : Result (PieceValue × ℤ) ThreadFault). IfOk a (λ r. HasEnded y r.0 r.1)) (sym c.answer.ensures) (ended y c.in-Ok.reason c.in-Ok.ensures)

pub returns-clause-err : goal.returns-clause-err
returns-clause-err g c =
    let y = c.args.shared.now in
    subst (λ (a : Result (PieceValue × ℤ) ThreadFault). IfErr a (IsTrueFault y.run.event_order c.args.workers)) (sym c.answer.ensures)
    (failed y c.args.workers c.in-Ok.reason c.requires.pool c.in-Ok.ensures)
