use Rattle.std.proofs.Common.{sym, ap, ◌∙◌}
use Rattle.cilk_scheduler.specs.Workers.{is_idle}
use Rattle.cilk_schedule.proofs.Reasons.{no_frame_why, no_worker_runs}
use Rattle.cilk_schedule.proofs.unmade.of_run.Goals as goal

pub returns-then-is_idle : goal.returns-then-is_idle
returns-then-is_idle c = λ p is h skipped.
    let m = c.args.machine.now in
    no_frame_why m.code.now p m.input.now m.scheduler h c.args.worker c.requires (ap (λ l. is_idle l c.args.worker) (sym c.as_slice.ensures.value) ∙ sym c.is_idle.ensures ∙ c.if-is_idle.true)

pub returns-else-is_idle : goal.returns-else-is_idle
returns-else-is_idle c = λ p is h skipped.
    let m = c.args.machine.now in
    no_worker_runs m.code.now p m.input.now m.scheduler h c.args.worker c.requires (ap (λ l. is_idle l c.args.worker) (sym c.as_slice.ensures.value) ∙ sym c.is_idle.ensures ∙ c.if-is_idle.false) skipped
