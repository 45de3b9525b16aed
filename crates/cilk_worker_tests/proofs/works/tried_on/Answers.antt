use Rattle.std.proofs.Common.{◌≡◌, [], refl, sym, subst}
use Rattle.cilk_tree.specs.declared.event_order.EventOrder.{EventOrder}
use Rattle.cilk_tree.specs.Along.{IsAlong}
use Rattle.cilk_shared.specs.Pieces.{PieceValue}
use Rattle.cilk_shared.specs.Reducers.{events_at}
use Rattle.cilk_shared.specs.Settled.{AreSettled}
use Rattle.cilk_workers.specs.Rows.{OfRun, run_of}
use Rattle.cilk_workers.specs.Shared.{SharedValue}
use Rattle.cilk_threads.proofs.Cells.{cells_along}
use Rattle.cilk_threads.proofs.Columns.{columns_along}
use Rattle.cilk_worker_tests.proofs.works.tried_on.Goals as goal

pub new-shared-requires-clause-along : goal.new-shared-requires-clause-along
new-shared-requires-clause-along g c = subst (λ (s : EventOrder). IsAlong s c.args.start.yard.now.event_order) (sym c.events.ensures.event_order) c.requires.along

pub new-shared-requires-clause-cells : goal.new-shared-requires-clause-cells
new-shared-requires-clause-cells g c = cells_along c.args.plan.now.run c.args.plan.now.event_order c.args.start.yard.now.event_order c.laws.ensures.plan c.requires.along

pub new-shared-requires-clause-numbers : goal.new-shared-requires-clause-numbers
new-shared-requires-clause-numbers g c =
    let w = c.args.plan.now in
    c.accepted_event_orders_have_numbers.ensures w.run c.args.plan.now.event_order.opening c.args.input.now c.args.start.yard.now.event_order c.args.start.table.now c.laws.ensures.determinate c.requires.table.0 c.inputs_are_words.ensures c.requires.event_order

pub new-piece-requires-clause-settled : goal.new-piece-requires-clause-settled
new-piece-requires-clause-settled g c =
    subst (λ (s : EventOrder). AreSettled s c.args.start.table.now) (sym c.requires.segment.0.1)
    (c.requires.table.0.settled c.args.plan.now.event_order c.args.start.yard.now.event_order c.laws.ensures.plan c.requires.along)

pub new-piece-requires-clause-quiet : goal.new-piece-requires-clause-quiet
new-piece-requires-clause-quiet g c =
    subst (λ (s : EventOrder). events_at s c.args.start.table.now 1 ≡ []) (sym c.requires.segment.0.1)
    (c.requires.table.0.quiet c.args.plan.now.event_order c.args.start.yard.now.event_order c.laws.ensures.plan c.requires.along)

pub first-requires : goal.first-requires
first-requires g c =
    let on = c.requires.segment in
    let x = c.new-piece.result in
    record {
      piece = subst (λ (y : SharedValue). OfRun y.run x × (x.from ≡ 1) × (x.upto ≡ 2)) (sym c.new-shared.ensures)
          (subst (λ (z : PieceValue). OfRun (run_of c.args.start.yard.now c.args.start.table.now) z × (z.from ≡ 1) × (z.upto ≡ 2)) (sym c.new-piece.ensures)
          ((on.0.0, on.0.1, refl), on.1, on.2));
    }

pub new-shared-requires-clause-columns : goal.new-shared-requires-clause-columns
new-shared-requires-clause-columns g c =
    let plan = c.args.plan.now.event_order in
    let s = c.args.start.yard.now.event_order in
    columns_along plan s c.requires.along c.laws.ensures.order c.laws.ensures.continuations c.syncs.result.now c.firsts.result.now c.blocks-blocks.result.now c.strands.result.now c.syncs.ensures
    (c.firsts.ensures c.syncs.result.now c.syncs.ensures) (c.blocks-blocks.ensures c.syncs.result.now c.syncs.ensures) c.strands.ensures
