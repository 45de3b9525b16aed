use Rattle.std.proofs.Common.{◌≡◌, false, Option, Some, None, ℤ, List, Result, Err, IfOk, IfErr, refl, sym, ◌∙◌, subst}
use Rattle.std.specs.Option.{is_some}
use Rattle.cilk_lower.specs.Code.{CodeView}
use Rattle.cilk_scheduler.specs.declared.scheduler.Scheduler.{Scheduler}
use Rattle.cilk_scheduler.specs.declared.choice.Choice.{Choice}
use Rattle.cilk_scheduler.specs.declared.choice.Choice.TheVariants as choices
use Rattle.cilk_scheduler.specs.declared.choice.Stop.{Stop}
use Rattle.cilk_scheduler.specs.declared.choice.Told.{Told}
use Rattle.cilk_schedule.specs.Choices.{CanChoose}
use Rattle.cilk_schedule.specs.Faults.{FaultsAreStops}
use Rattle.cilk_schedule.specs.Passing.{SkipsAreSteps, StealsAreSteps}
use Rattle.cilk_schedule.proofs.Faults.{halted, memory_stops}
use Rattle.cilk_schedule.proofs.Skipping.{over_skips, skips_are_steps}
use Rattle.cilk_schedule.proofs.Standing.{kept_stopped}
use Rattle.cilk_schedule.proofs.Stepping.{if_ok}
use Rattle.cilk_schedule.proofs.Workers.{some_of}
use Rattle.cilk_schedule.proofs.running.choose.Goals.{in-Run, in-Steal}
use Rattle.cilk_schedule.proofs.running.choose.Goals as goal

open_yet : {A : Type 0} (o : Option A) → is_some o ≡ false → o ≡ None
open_yet None h = refl
open_yet (Some x) h = cc

-- the result of a choice, by its kind
over : {b b' : Scheduler} {r r' : Result Told Stop} {c c' : Choice} (P : Scheduler → Choice → Told → Type 0) → b ≡ b' → r ≡ r' → c ≡ c' → IfOk r' (λ t. P b' c' t) → IfOk r (λ t. P b c t)
over {b} {b'} {r} {r'} {c} {c'} P scheduler_is told_is choice_is h =
    subst (λ q. IfOk r (λ t. P q c t)) (sym scheduler_is) (subst (λ q. IfOk q (λ t. P b' c t)) (sym told_is) (subst (λ q. IfOk r' (λ t. P b' q t)) (sym choice_is) h))

pub returns-in_default-told-clause-made : goal.returns-in_default-told-clause-made
returns-in_default-told-clause-made g c = λ going unended skipped can.
    elim c.match-choice.branch [
      | in-Run w ↦ let k = subst (λ q. CanChoose c.args.scheduler.now q) w.in-Run.is can in w.run-told.ensures.made k.0 k.1 (sym w.told-is ∙ skipped)
      | in-Steal w ↦ let k = subst (λ q. CanChoose c.args.scheduler.now q) w.in-Steal.is can in w.steal-told.ensures.made k.0 k.1 (sym w.told-is ∙ skipped)
    ]

pub returns-in_default-told-clause-thieves : goal.returns-in_default-told-clause-thieves
returns-in_default-told-clause-thieves g c =
    let b = c.args.scheduler.now in
    let code = c.args.code.now in
    let inputs = c.args.input.now in
    let now = c.match-choice.scheduler in
    elim c.match-choice.branch [
      | in-Run w ↦ over (λ q ch t. StealsAreSteps code inputs b q ch t) w.scheduler-is w.told-is w.in-Run.is w.run-told.ensures.thieves
      | in-Steal w ↦ over (λ q ch t. StealsAreSteps code inputs b q ch t) w.scheduler-is w.told-is w.in-Steal.is (if_ok w.steal-told.result w.steal-told.ensures.thieves (λ t h. h (open_yet b.outcome (sym c.is_some.ensures ∙ c.if-is_some.false)) code inputs))
    ]

pub returns-in_default-told-clause-skips : goal.returns-in_default-told-clause-skips
returns-in_default-told-clause-skips g c =
    let b = c.args.scheduler.now in
    let code = c.args.code.now in
    let inputs = c.args.input.now in
    let still = open_yet b.outcome (sym c.is_some.ensures ∙ c.if-is_some.false) in
    elim c.match-choice.branch [
      | in-Run w ↦ over (λ q ch t. SkipsAreSteps code inputs b q ch t) w.scheduler-is w.told-is w.in-Run.is (skips_are_steps code inputs b w.run-told.new.scheduler (choices.Run w.in-Run.worker) still w.run-told.result w.run-told.ensures.skipped (λ q can. w.run-told.ensures.made can.0 can.1 q))
      | in-Steal w ↦ over (λ q ch t. SkipsAreSteps code inputs b q ch t) w.scheduler-is w.told-is w.in-Steal.is (skips_are_steps code inputs b w.steal-told.new.scheduler (choices.Steal w.in-Steal.worker w.in-Steal.place) still w.steal-told.result w.steal-told.ensures.skipped (λ q can. w.steal-told.ensures.made can.0 can.1 q))
    ]

pub returns-then-is_some-clause-skips : goal.returns-then-is_some-clause-skips
returns-then-is_some-clause-skips g c =
    let b = c.args.scheduler.now in
    let o = some_of b.outcome (sym c.is_some.ensures ∙ c.if-is_some.true) in
    over_skips c.args.code.now c.args.input.now b c.args.choice o.0 o.1

-- why a run stopped, by the kind of the choice
stopped_by : (code : CodeView) (inputs : List ℤ) (b b' b2 : Scheduler) (c c2 : Choice) (r r2 : Result Told Stop) (stop : Stop) → r ≡ Err stop → b' ≡ b2 → r ≡ r2 → c ≡ c2 → IfErr r2 (λ z. FaultsAreStops code inputs b b2 c2 z) → FaultsAreStops code inputs b b' c stop
stopped_by code inputs b b' b2 c c2 r r2 stop is scheduler_is told_is choice_is h =
    subst (λ q. FaultsAreStops code inputs b q c stop) (sym scheduler_is)
    (subst (λ q. FaultsAreStops code inputs b b2 q stop) (sym choice_is) (subst (λ q. IfErr q (λ z. FaultsAreStops code inputs b b2 c2 z)) (sym told_is ∙ is) h))

pub returns-in-Err-clause-faults : goal.returns-in-Err-clause-faults
returns-in-Err-clause-faults g c = λ going.
    let b = c.args.scheduler.now in
    let code = c.args.code.now in
    let inputs = c.args.input.now in
    let now = c.match-choice.scheduler in
    halted code inputs b now c.args.choice c.in-Err.stop (Some c.in-Err.stop)
    (elim c.match-choice.branch [
      | in-Run w ↦ stopped_by code inputs b now w.run-told.new.scheduler c.args.choice (choices.Run w.in-Run.worker) c.match-choice.told w.run-told.result c.in-Err.stop c.in-Err.is w.scheduler-is w.told-is w.in-Run.is w.run-told.ensures.faults
      | in-Steal w ↦ stopped_by code inputs b now w.steal-told.new.scheduler c.args.choice (choices.Steal w.in-Steal.worker w.in-Steal.place) c.match-choice.told w.steal-told.result c.in-Err.stop c.in-Err.is w.scheduler-is w.told-is w.in-Steal.is
          (memory_stops code inputs b w.steal-told.new.scheduler (choices.Steal w.in-Steal.worker w.in-Steal.place) w.steal-told.result w.steal-told.ensures.memory)
    ])

pub returns-in-Err-clause-kept : goal.returns-in-Err-clause-kept
returns-in-Err-clause-kept g c = λ going.
    let b = c.args.scheduler.now in
    let now = c.match-choice.scheduler in
    elim c.match-choice.branch [
      | in-Run w ↦ kept_stopped b now w.run-told.new.scheduler c.match-choice.told w.run-told.result c.in-Err.stop c.in-Err.is w.scheduler-is w.told-is w.run-told.ensures.kept
      | in-Steal w ↦ kept_stopped b now w.steal-told.new.scheduler c.match-choice.told w.steal-told.result c.in-Err.stop c.in-Err.is w.scheduler-is w.told-is w.steal-told.ensures.kept
    ]
