use Rattle.std.proofs.Common.{◌++◌, ◌∷◌, [], ℕ, List, sym, subst}
use Rattle.std.specs.Prelude.{replicate}
use Rattle.cilk_scheduler.specs.declared.choice.Choice.TheVariants as choices
use Rattle.cilk_schedule.specs.Playing.{Choose, Rounds}
use Rattle.cilk_schedule.specs.Strict.{FailsStrictly, HasMade, LineTask, line_tasks}
use Rattle.cilk_schedule.specs.declared.machine.Machine.{Machine}
use Rattle.cilk_schedule.specs.declared.unmade.StrictFault.TheVariants as faults
use Rattle.cilk_schedule.proofs.Following.{if_err, on_ok}
use Rattle.cilk_schedule.proofs.Strictly.{fault_found, more_made, no_choice}
use Rattle.cilk_schedule.proofs.strict.make_step.Goals as goal

pub returns-in-Run-clause-made : goal.returns-in-Run-clause-made
returns-in-Run-clause-made c =
    let line = c.args.step.line in
    let x : LineTask = record { line = line; task = Choose (choices.Run c.in-Run.worker) } in
    on_ok c.repeat.result
    ((workers : ℕ) (first : Machine) (done : List LineTask) → HasMade workers first done c.args.machine.now → HasMade workers first (done ++ replicate c.in-Run.count x) c.repeat.new.machine)
    ((first : Machine) (done : List LineTask) → HasMade c.args.workers first done c.args.machine.now → HasMade c.args.workers first (done ++ line_tasks line c.args.step.order) c.repeat.new.machine)
    (λ made. λ first done h. subst (λ o. HasMade c.args.workers first (done ++ line_tasks line o) c.repeat.new.machine) (sym c.in-Run.is) (made c.args.workers first done h)) c.repeat.ensures.made

pub returns-in-Run-clause-fault : goal.returns-in-Run-clause-fault
returns-in-Run-clause-fault c =
    let line = c.args.step.line in
    let x : LineTask = record { line = line; task = Choose (choices.Run c.in-Run.worker) } in
    if_err c.repeat.result
    (λ f. (workers : ℕ) (first : Machine) (done behind : List LineTask) → HasMade workers first done c.args.machine.now → FailsStrictly workers first (done ++ (replicate c.in-Run.count x ++ behind)) f)
    (λ f. (first : Machine) (done behind : List LineTask) → HasMade c.args.workers first done c.args.machine.now → FailsStrictly c.args.workers first (done ++ (line_tasks line c.args.step.order ++ behind)) f)
    (λ f lost. λ first done behind h. subst (λ o. FailsStrictly c.args.workers first (done ++ (line_tasks line o ++ behind)) f) (sym c.in-Run.is) (lost c.args.workers first done behind h)) c.repeat.ensures.fault

pub returns-in-Steal-clause-made : goal.returns-in-Steal-clause-made
returns-in-Steal-clause-made c =
    let line = c.args.step.line in
    let x : LineTask = record { line = line; task = Choose (choices.Steal c.in-Steal.worker c.in-Steal.place) } in
    on_ok c.make.result
    ((workers : ℕ) (first : Machine) (done : List LineTask) → HasMade workers first done c.args.machine.now → HasMade workers first (done ++ x ∷ []) c.make.new.machine)
    ((first : Machine) (done : List LineTask) → HasMade c.args.workers first done c.args.machine.now → HasMade c.args.workers first (done ++ line_tasks line c.args.step.order) c.make.new.machine)
    (λ made. λ first done h. subst (λ o. HasMade c.args.workers first (done ++ line_tasks line o) c.make.new.machine) (sym c.in-Steal.is) (made c.args.workers first done h)) c.make.ensures.made

pub returns-in-Steal-clause-fault : goal.returns-in-Steal-clause-fault
returns-in-Steal-clause-fault c =
    let line = c.args.step.line in
    let x : LineTask = record { line = line; task = Choose (choices.Steal c.in-Steal.worker c.in-Steal.place) } in
    if_err c.make.result
    (λ f. (workers : ℕ) (first : Machine) (done behind : List LineTask) → HasMade workers first done c.args.machine.now → FailsStrictly workers first (done ++ x ∷ behind) f)
    (λ f. (first : Machine) (done behind : List LineTask) → HasMade c.args.workers first done c.args.machine.now → FailsStrictly c.args.workers first (done ++ (line_tasks line c.args.step.order ++ behind)) f)
    (λ f lost. λ first done behind h. subst (λ o. FailsStrictly c.args.workers first (done ++ (line_tasks line o ++ behind)) f) (sym c.in-Steal.is) (lost c.args.workers first done behind h)) c.make.ensures.fault

pub returns-in-Ok-clause-made : goal.returns-in-Ok-clause-made
returns-in-Ok-clause-made c = λ first done h.
    let line = c.args.step.line in
    subst (λ o. HasMade c.args.workers first (done ++ line_tasks line o) c.rounds.new.machine) (sym c.in-All.is)
    (more_made c.args.workers first c.args.machine.now done h (record { line = line; task = Rounds 4000000 }) c.rounds.new.machine c.in-Ok.ensures.made (no_choice c.args.machine.now 4000000))

pub returns-in-Err-clause-fault : goal.returns-in-Err-clause-fault
returns-in-Err-clause-fault c = λ first done behind h.
    let line = c.args.step.line in
    subst (λ o. FailsStrictly c.args.workers first (done ++ (line_tasks line o ++ behind)) (faults.Play c.in-Err.fault)) (sym c.in-All.is)
    (fault_found c.args.workers first c.args.machine.now done h (record { line = line; task = Rounds 4000000 }) c.in-Err.fault behind c.in-Err.ensures.fault)
