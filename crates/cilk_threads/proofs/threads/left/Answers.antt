use Rattle.std.proofs.Common.{◌≡◌, ◌≤◌, ◌+◌, ℤ, List, [], length, pos, slice_index_or, sym, ap, ◌∙◌, subst, w64}
use Rattle.std.proofs.lemmas.Int.{to_z-of_z}
use Rattle.cilk_lower.specs.Layout.{LaysOut}
use Rattle.cilk_lower.specs.declared.layout.Layout.{Layout}
use Rattle.cilk_program.specs.declared.program.Program.{Program}
use Rattle.cilk_program.specs.Sources.{source}
use Rattle.cilk_program.specs.Answered.{opening_cells}
use Rattle.cilk_tree.specs.declared.event_order.EventOrder.{EventOrder}
use Rattle.cilk_plan.proofs.Telling.{for_ok}
use Rattle.cilk_threads.specs.Finals.{IsMadeOf}
use Rattle.cilk_threads.proofs.Left.{left_on, nowhere, nowhere_on}
use Rattle.cilk_threads.proofs.threads.left.Goals as goal

pub outcome-requires-clause-yard : goal.outcome-requires-clause-yard
outcome-requires-clause-yard c = let w = c.requires.whole in (w.good.0.0, w.good.0.1)

pub outcome-requires-clause-all : goal.outcome-requires-clause-all
outcome-requires-clause-all c = let w = c.requires.whole in (w.begins, w.last ∙ ap (λ (s : EventOrder). length s.events + 1) (sym w.good.0.1))

pub outcome-requires-clause-layout : goal.outcome-requires-clause-layout
outcome-requires-clause-layout c =
    subst (λ (z : Program × Layout). LaysOut (source z.0) z.1) (λ i. (sym c.program.ensures i, sym c.layout.ensures i)) c.code.ensures.layout

pub outcome-requires-clause-globals : goal.outcome-requires-clause-globals
outcome-requires-clause-globals c =
    let w = c.requires.whole in
    let opening = ap (λ (s : EventOrder). s.opening) w.good.0.1 ∙ c.requires.along.opening in
    subst (λ (z : Program × List ℤ). (let p = source z.0 in length p.openings ≤ length z.1)) (λ i. (sym c.program.ensures i, sym opening i)) c.laws.ensures.plan.globals

pub outcome-requires-clause-opens : goal.outcome-requires-clause-opens
outcome-requires-clause-opens c =
    let w = c.requires.whole in
    let opening = ap (λ (s : EventOrder). s.opening) w.good.0.1 ∙ c.requires.along.opening in
    λ k. subst (λ (z : Program × List ℤ). slice_index_or z.1 k (pos 0) ≡ opening_cells (source z.0) [] k) (λ i. (sym c.program.ensures i, sym opening i)) (c.laws.ensures.plan.opens k)

pub returns-clause-outcome : goal.returns-clause-outcome
returns-clause-outcome c =
    let w = c.requires.whole in
    let a = c.args.plan.now.run in
    for_ok _ _ c.outcome.result
    (λ o made.
    left_on c.programs_have_one_course.ensures c.inputs_run_along.ensures c.runs_are_elided.ensures a c.laws.ensures.determinate c.args.plan.now.event_order c.args.yard.event_order c.args.input.now c.inputs_are_words.ensures c.args.piece.reducers c.args.value o c.laws.ensures.plan
    c.laws.ensures.order c.requires.event_order c.requires.table (nowhere c.args.yard.event_order c.laws-2.ensures.order w.followed) w.result
    (subst (λ (z : Program × EventOrder × ℤ). IsMadeOf (source z.0) z.1 c.args.piece.reducers z.2 o) (λ i. (c.program.ensures i, w.good.0.1 i, to_z-of_z w64 c.args.value c.ranges.value i)) made))
    c.outcome.ensures

pub returns-clause-follows : goal.returns-clause-follows
returns-clause-follows c =
    for_ok _ _ c.outcome.result
    (λ o made.
    nowhere_on c.args.plan.now.run c.args.input.now c.args.plan.now.event_order.opening c.args.yard.event_order c.requires.event_order
    (nowhere c.args.yard.event_order c.laws-2.ensures.order c.requires.whole.followed))
    c.outcome.ensures
