use Rattle.std.proofs.Common.{◌++◌, ◌∷◌, [], ℕ, sym, subst}
use Rattle.std.specs.Prelude.{map, replicate}
use Rattle.cilk_scheduler.specs.declared.choice.Choice.TheVariants as choices
use Rattle.cilk_schedule.specs.Playing.{Choose, ComesToFault, Leads, Rounds}
use Rattle.cilk_schedule.specs.Strict.{FailsBehind, HasPlayed, LineTask, PlaysMore, line_tasks, task_in}
use Rattle.cilk_schedule.proofs.Counted.{fails_behind, more_played}
use Rattle.cilk_schedule.proofs.Following.{if_err, on_ok}
use Rattle.cilk_schedule.proofs.Strictly.{no_choice}
use Rattle.cilk_schedule.proofs.counting.make_step.Goals as goal

pub returns-in-Run-clause-made : goal.returns-in-Run-clause-made
returns-in-Run-clause-made c =
    let line = c.args.step.line in
    let x : LineTask = record { line = line; task = Choose (choices.Run c.in-Run.worker) } in
    let old = c.args.machine.now in
    let new = c.repeat.new in
    on_ok c.repeat.result ((workers : ℕ) → PlaysMore workers (replicate c.in-Run.count x) old c.args.skips.now new.machine new.skips)
    (PlaysMore c.args.workers (line_tasks line c.args.step.order) old c.args.skips.now new.machine new.skips)
    (λ made. λ first done h. subst (λ o. HasPlayed c.args.workers first (done ++ line_tasks line o) new.machine new.skips) (sym c.in-Run.is) (made c.args.workers first done h)) c.repeat.ensures.made

pub returns-in-Run-clause-fault : goal.returns-in-Run-clause-fault
returns-in-Run-clause-fault c =
    let line = c.args.step.line in
    let x : LineTask = record { line = line; task = Choose (choices.Run c.in-Run.worker) } in
    let old = c.args.machine.now in
    if_err c.repeat.result (λ f. (workers : ℕ) → FailsBehind workers (replicate c.in-Run.count x) old c.args.skips.now f)
    (λ f. FailsBehind c.args.workers (line_tasks line c.args.step.order) old c.args.skips.now f)
    (λ f lost. λ first done behind h. subst (λ o. ComesToFault c.args.workers (map task_in (done ++ (line_tasks line o ++ behind))) first f) (sym c.in-Run.is) (lost c.args.workers first done behind h)) c.repeat.ensures.fault

pub returns-in-Steal-clause-made : goal.returns-in-Steal-clause-made
returns-in-Steal-clause-made c =
    let line = c.args.step.line in
    let x : LineTask = record { line = line; task = Choose (choices.Steal c.in-Steal.worker c.in-Steal.place) } in
    let old = c.args.machine.now in
    let new = c.make.new in
    on_ok c.make.result ((workers : ℕ) → PlaysMore workers (x ∷ []) old c.args.skips.now new.machine new.skips) (PlaysMore c.args.workers (line_tasks line c.args.step.order) old c.args.skips.now new.machine new.skips)
    (λ made. λ first done h. subst (λ o. HasPlayed c.args.workers first (done ++ line_tasks line o) new.machine new.skips) (sym c.in-Steal.is) (made c.args.workers first done h)) c.make.ensures.made

pub returns-in-Steal-clause-fault : goal.returns-in-Steal-clause-fault
returns-in-Steal-clause-fault c =
    let line = c.args.step.line in
    let x : LineTask = record { line = line; task = Choose (choices.Steal c.in-Steal.worker c.in-Steal.place) } in
    let old = c.args.machine.now in
    if_err c.make.result (λ f. (workers : ℕ) → FailsBehind workers (x ∷ []) old c.args.skips.now f)
    (λ f. FailsBehind c.args.workers (line_tasks line c.args.step.order) old c.args.skips.now f)
    (λ f lost. λ first done behind h. subst (λ o. ComesToFault c.args.workers (map task_in (done ++ (line_tasks line o ++ behind))) first f) (sym c.in-Steal.is) (lost c.args.workers first done behind h)) c.make.ensures.fault

pub returns-in-All-clause-made : goal.returns-in-All-clause-made
returns-in-All-clause-made c =
    let line = c.args.step.line in
    let x : LineTask = record { line = line; task = Rounds 4000000 } in
    let old = c.args.machine.now in
    on_ok c.rounds.result (Leads c.args.workers (Rounds 4000000 ∷ []) old [] c.rounds.new.machine)
    (PlaysMore c.args.workers (line_tasks line c.args.step.order) old c.args.skips.now c.rounds.new.machine c.args.skips.now)
    (λ made. λ first done h. subst (λ o. HasPlayed c.args.workers first (done ++ line_tasks line o) c.rounds.new.machine c.args.skips.now) (sym c.in-All.is)
    (more_played c.args.workers first old done c.args.skips.now h x c.rounds.new.machine made (no_choice old 4000000))) c.rounds.ensures.made

pub returns-in-All-clause-fault : goal.returns-in-All-clause-fault
returns-in-All-clause-fault c =
    let line = c.args.step.line in
    let x : LineTask = record { line = line; task = Rounds 4000000 } in
    let old = c.args.machine.now in
    if_err c.rounds.result (λ f. ComesToFault c.args.workers (Rounds 4000000 ∷ []) old f) (λ f. FailsBehind c.args.workers (line_tasks line c.args.step.order) old c.args.skips.now f)
    (λ f lost. λ first done behind h. subst (λ o. ComesToFault c.args.workers (map task_in (done ++ (line_tasks line o ++ behind))) first f) (sym c.in-All.is)
    (fails_behind c.args.workers first old done c.args.skips.now h x behind f lost)) c.rounds.ensures.fault
