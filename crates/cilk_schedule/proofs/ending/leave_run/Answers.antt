use Rattle.std.proofs.Common.{rules, ◌≡◌, ℤ, Some, refl, ap, ◌∙◌, to_z, of_z, w64}
use Rattle.cilk_frames.specs.Leaving.{outcome_of}
use Rattle.cilk_schedule.proofs.Parting.{leaves_by}
use Rattle.cilk_schedule.proofs.ending.leave_run.Goals as goal

pub returns-clause-departs : goal.returns-clause-departs
returns-clause-departs c =
    let m = c.index_mut.result.now in
    let w : ℤ = to_z w64 (of_z w64 c.args.value) in
    let same : w ≡ c.args.value = search rules in
    let left : c.in_ok-left.left ≡ outcome_of c.args.code.now.layout c.args.scheduler.now.cells.items m.views c.args.value =
    c.in_ok-left.ensures ∙ ap (λ l. outcome_of l c.as_slice.result.now m.views w) c.layout.ensures ∙ ap (λ l. outcome_of c.args.code.now.layout l m.views w) c.as_slice.ensures.value
    ∙ ap (λ v. outcome_of c.args.code.now.layout c.args.scheduler.now.cells.items m.views v) same in
    leaves_by c.args.code.now c.args.scheduler.now _ c.args.worker c.args.value m c.outcome.new.views c.index_mut.ensures.value c.requires.works (ap (λ o. Some o) left) refl c.leave.ensures.has refl
