use Rattle.std.proofs.Common.{◌∷◌, [], ℕ, subst, sym}
use Rattle.cilk_scheduler.specs.declared.choice.Choice.TheVariants as choices
use Rattle.cilk_schedule.specs.Playing.{Choose, ComesToFault, Leads, task_of}
use Rattle.cilk_schedule.specs.declared.fault.PlayFault.TheVariants as faults
use Rattle.cilk_schedule.proofs.Following.{on_ok}
use Rattle.cilk_schedule.proofs.Keeping.{passes}
use Rattle.cilk_schedule.proofs.player.make.Goals as goal

pub returns-in-Run-clause-made : goal.returns-in-Run-clause-made
returns-in-Run-clause-made c =
    on_ok c.choose.result ((workers : ℕ) → Leads workers (Choose (choices.Run c.in-Run.worker) ∷ []) c.args.machine.now [] c.choose.new.machine)
    (Leads c.args.workers (task_of c.args.next ∷ []) c.args.machine.now [] c.choose.new.machine)
    (λ made. subst (λ n. Leads c.args.workers (task_of n ∷ []) c.args.machine.now [] c.choose.new.machine) (sym c.in-Run.is) (made c.args.workers)) c.choose.ensures.made

pub returns-in-Steal-clause-made : goal.returns-in-Steal-clause-made
returns-in-Steal-clause-made c =
    on_ok c.choose-in-Steal.result ((workers : ℕ) → Leads workers (Choose (choices.Steal c.in-Steal.worker c.in-Steal.place) ∷ []) c.args.machine.now [] c.choose-in-Steal.new.machine)
    (Leads c.args.workers (task_of c.args.next ∷ []) c.args.machine.now [] c.choose-in-Steal.new.machine)
    (λ made. subst (λ n. Leads c.args.workers (task_of n ∷ []) c.args.machine.now [] c.choose-in-Steal.new.machine) (sym c.in-Steal.is) (made c.args.workers)) c.choose-in-Steal.ensures.made

pub returns-in-Past-clause-fault : goal.returns-in-Past-clause-fault
returns-in-Past-clause-fault c =
    subst (λ n. ComesToFault c.args.workers (task_of n ∷ []) c.args.machine.now (faults.Line c.in-Past.line)) (sym c.in-Past.is) (passes c.args.workers c.in-Past.line c.args.machine.now)
