use Rattle.std.proofs.Common.{◌≡◌, ◌∷◌, [], ℕ, sym, ◌∙◌}
use Rattle.cilk_schedule.specs.Playing.{Choose, ComesToFault, Leads, Turn}
use Rattle.cilk_schedule.proofs.Following.{if_err, on_ok}
use Rattle.cilk_schedule.proofs.Keeping.{comes_turned, leads_turned, turn_at, turn_runs, turn_steals}
use Rattle.cilk_schedule.proofs.player.turn.Goals as goal
use Rattle.cilk_schedule.proofs.player.turn.Goals.{then-holds, else-holds}

picked : (c : goal.After-choose) → c.if-holds.choice ≡ turn_at c.args.machine.now.scheduler c.args.worker
picked c =
    elim c.if-holds.branch [
      | then-holds w ↦ w.choice-is ∙ turn_runs c.args.machine.now.scheduler c.args.worker (sym c.holds.ensures ∙ w.if-holds.true)
      | else-holds w ↦ w.choice-is ∙ turn_steals c.args.machine.now.scheduler c.args.worker (sym c.holds.ensures ∙ w.if-holds.false)
    ]

pub returns-clause-made : goal.returns-clause-made
returns-clause-made c =
    on_ok c.choose.result
    ((workers : ℕ) → Leads workers (Choose c.if-holds.choice ∷ []) c.args.machine.now [] c.choose.new.machine)
    ((workers : ℕ) → Leads workers (Turn c.args.worker ∷ []) c.args.machine.now [] c.choose.new.machine)
    (λ made. λ workers. leads_turned workers c.args.worker c.if-holds.choice c.args.machine.now c.choose.new.machine (picked c) (made workers))
    c.choose.ensures.made

pub returns-clause-fault : goal.returns-clause-fault
returns-clause-fault c =
    if_err c.choose.result (λ f. (workers : ℕ) → ComesToFault workers (Choose c.if-holds.choice ∷ []) c.args.machine.now f)
    (λ f. (workers : ℕ) → ComesToFault workers (Turn c.args.worker ∷ []) c.args.machine.now f)
    (λ f lost. λ workers. comes_turned workers c.args.worker c.if-holds.choice c.args.machine.now f (picked c) (lost workers))
    c.choose.ensures.fault
