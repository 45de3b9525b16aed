use Rattle.std.proofs.Common.{sym, ap, ◌∙◌, subst}
use Rattle.cilk_scheduler.specs.Workers.{is_idle}
use Rattle.cilk_scheduler.specs.declared.choice.Choice.TheVariants as choices
use Rattle.cilk_schedule.specs.Strict.{IsWhy}
use Rattle.cilk_schedule.specs.declared.unmade.Reason.TheVariants as reasons
use Rattle.cilk_schedule.proofs.Reasons.{has_frame_why, no_worker_steals, offers_why}
use Rattle.cilk_schedule.proofs.unmade.of_steal.Goals as goal

pub returns-then-holds : goal.returns-then-holds
returns-then-holds c = λ p is h skipped.
    let m = c.args.machine.now in
    has_frame_why m.code.now p m.input.now m.scheduler h c.args.worker c.args._place c.requires (sym c.holds.ensures ∙ c.if-holds.true)

pub returns-then-is_idle : goal.returns-then-is_idle
returns-then-is_idle c = λ p is h skipped.
    let m = c.args.machine.now in
    subst (λ n. IsWhy h.state h.worker_table (choices.Steal c.args.worker c.args._place) (reasons.Offers n)) (sym c.offered.ensures)
    (offers_why m.code.now p m.input.now m.scheduler h c.args.worker c.args._place c.requires (ap (λ l. is_idle l c.args.worker) (sym c.as_slice.ensures.value) ∙ sym c.is_idle.ensures ∙ c.if-is_idle.true) skipped)

pub returns-else-is_idle : goal.returns-else-is_idle
returns-else-is_idle c = λ p is h skipped.
    let m = c.args.machine.now in
    no_worker_steals m.code.now p m.input.now m.scheduler h c.args.worker c.args._place c.requires (sym c.holds.ensures ∙ c.if-holds.false)
    (ap (λ l. is_idle l c.args.worker) (sym c.as_slice.ensures.value) ∙ sym c.is_idle.ensures ∙ c.if-is_idle.false)
