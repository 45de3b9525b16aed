use Rattle.std.proofs.Common.{◌≡◌, length, ap, ◌∙◌, subst, arith}
use Rattle.cilk_program.specs.declared.ask.Callee.TheVariants as callees
use Rattle.cilk_lower.specs.Layout.{cells_in}
use Rattle.cilk_lower.specs.declared.layout.Layout.{Layout}
use Rattle.cilk_scheduler.specs.Invocations.{ChildBegins}
use Rattle.cilk_scheduler.specs.Invoking.{IsChild}
use Rattle.cilk_schedule.proofs.Answering.{on_ok}
use Rattle.cilk_schedule.proofs.Started.{if_both, no_touch, started_by}
use Rattle.cilk_schedule.proofs.Stepping.{if_ok}
use Rattle.cilk_schedule.proofs.Turns.{begun_made, begun_ticks, can_start, turns_may}
use Rattle.cilk_schedule.proofs.starting.start_turns.Goals as goal

pub turns_child-requires-clause-up : goal.turns_child-requires-clause-up
turns_child-requires-clause-up c = let q = c.requires.turn in turns_may c.args.code.now q.0 c.args.scheduler.now c.args.frame q.1 c.args.how c.args.part c.requires.begins

pub begin-requires-clause-children : goal.begin-requires-clause-children
begin-requires-clause-children c = let q = c.requires.turn in can_start c.args.code.now q.0 c.args.scheduler.now c.args.frame q.1

pub returns-clause-made : goal.returns-clause-made
returns-clause-made c =
    let how = c.args.how in
    let part = c.args.part in
    let old = c.args.scheduler.now in
    let new = c.begin.new.scheduler in
    let same : record old { asked = c.spare-operands.new.self } ≡ old = ap (λ a. record old { asked = a }) c.spare-operands.ensures in
    let child = c.in_ok-child.child in
    let fine = c.args.scheduler.now.cells.ok in
    let counts = c.len.ensures in
    let base : c.len.result ≡ length c.args.scheduler.now.cells.items = omega (arith, fine, counts) in
    let count : c.part_cells-count.result ≡ cells_in c.args.code.now.layout (callees.Loop part) = c.part_cells-count.ensures ∙ ap (λ (l : Layout). cells_in l (callees.Loop part)) c.layout.ensures in
    let is = subst (λ l. IsChild c.args.code.now l c.args.frame c.args.worker c.len.result how (callees.Loop part) child) c.as_slice-frames.ensures.value c.in_ok-child.ensures in
    on_ok c.begin.result c.begin.ensures.begins
    (λ h. (
      λ inputs t. begun_made c.args.code.now inputs old c.args.frame t how (callees.Loop part) c.requires.begins c.args.worker c.len.result c.part_cells-count.result child base is count new (subst (λ b. ChildBegins b new c.args.worker c.args.frame how child c.part_cells-count.result) same h) c.begin.ensures.journal,
      begun_ticks old new c.args.worker c.args.frame how child c.part_cells-count.result (subst (λ b. ChildBegins b new c.args.worker c.args.frame how child c.part_cells-count.result) same h),
    ))

pub returns-clause-event : goal.returns-clause-event
returns-clause-event c = if_ok c.begin.result c.begin.ensures.event (λ e is. no_touch c.args.how _ e is)

pub returns-clause-starts : goal.returns-clause-starts
returns-clause-starts c =
    let how = c.args.how in
    let part = c.args.part in
    let old = c.args.scheduler.now in
    let new = c.begin.new.scheduler in
    let same : record old { asked = c.spare-operands.new.self } ≡ old = ap (λ a. record old { asked = a }) c.spare-operands.ensures in
    let child = c.in_ok-child.child in
    let fine = c.args.scheduler.now.cells.ok in
    let counts = c.len.ensures in
    let base : c.len.result ≡ length c.args.scheduler.now.cells.items = omega (arith, fine, counts) in
    let count : c.part_cells-count.result ≡ cells_in c.args.code.now.layout (callees.Loop part) = c.part_cells-count.ensures ∙ ap (λ (l : Layout). cells_in l (callees.Loop part)) c.layout.ensures in
    let is = subst (λ l. IsChild c.args.code.now l c.args.frame c.args.worker c.len.result how (callees.Loop part) child) c.as_slice-frames.ensures.value c.in_ok-child.ensures in
    if_both _ _ _ c.begin.result c.begin.ensures.event c.begin.ensures.begins
    (λ e at begins. started_by c.args.code.now old new c.args.worker c.args.frame c.len.result c.part_cells-count.result how (callees.Loop part) child e c.requires.begins base is count at (subst (λ b. ChildBegins b new c.args.worker c.args.frame how child c.part_cells-count.result) same begins))
