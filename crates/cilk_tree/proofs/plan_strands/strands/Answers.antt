use Rattle.std.proofs.Common.{ℕ, ◌+◌, ◌++◌, [], ◌∷◌, List, length, sym, ap, ◌∙◌, subst, arith}
use Rattle.cilk_types.specs.declared.event.Event.{Event}
use Rattle.cilk_tree.specs.Columns.{AreStrands}
use Rattle.cilk_tree.specs.Marks.{begun_by}
use Rattle.cilk_tree.specs.Placing.{AreBegun}
use Rattle.cilk_tree.proofs.Begun.{begun_all, begun_few, begun_first, begun_here, begun_none, strand_few}
use Rattle.cilk_tree.proofs.plan_strands.strands.Goals as goal
use Rattle.cilk_tree.proofs.plan_strands.strands.Goals.{then-strands-eq1, else-strands-eq1}

pub overflow_add-strand : goal.overflow_add-strand
overflow_add-strand c =
    let many = c.loop-event.invariant.0.many in
    let few = strand_few c.as_slice-event-items.result.now c.loop-event.event-index in
    let test = c.loop-event-test.true in
    let within = c.as_slice-event-items.ensures.within in
    let same = ap (λ (es : List Event). length es) c.as_slice-event-items.ensures.events in
    omega (arith, many, few, test, within, same)

pub loop-event-init : goal.loop-event-init
loop-event-init c =
    let es : List Event = c.as_slice-event-items.result.now in
    let room = c.in_ok-column.ensures.capacity in
    let same = c.push_reserved.ensures.capacity in
    let count = c.len.ensures.events in
    let long = ap (λ (l : List Event). length l) c.as_slice-event-items.ensures.events in (
      subst (AreBegun es 0 0) (sym (c.push_reserved.ensures.items ∙ ap (λ (l : List ℕ). l ++ 0 ∷ []) c.in_ok-column.ensures.items)) (begun_first es),
      omega (arith, room, same, count, long),
    )

pub loop-event-preserved : goal.loop-event-preserved
loop-event-preserved c =
    let es : List Event = c.as_slice-event-items.result.now in
    let n : ℕ = c.loop-event.event-index in
    let so_far = c.loop-event.invariant.0 in
    let room = c.loop-event.invariant.1 in
    elim c.if-strands-eq1.branch [
      | then-strands-eq1 w ↦ rw w.strand-is (rw w.column-is (
        subst (AreBegun es (n + 1) (c.loop-event.strand + 1)) (sym w.push_reserved-then-strands-eq1.ensures.items)
            (begun_here es n c.loop-event.strand _ c.loop-event.column.items c.loop-event-test.true so_far (ap begun_by (sym c.of.ensures) ∙ (sym c.strands.ensures ∙ w.if-strands-eq1.true))),
        let same = w.push_reserved-then-strands-eq1.ensures.capacity in omega (arith, room, same),
      ))
      | else-strands-eq1 w ↦ rw w.strand-is (rw w.column-is (
        subst (AreBegun es (n + 1) c.loop-event.strand) (sym w.push_reserved-else-strands-eq1.ensures.items)
            (begun_none es n c.loop-event.strand _ c.loop-event.column.items c.loop-event-test.true so_far
            (ap begun_by (sym c.of.ensures) ∙ begun_few c.of.result (λ one. w.if-strands-eq1.false (c.strands.ensures ∙ one)))),
        let same = w.push_reserved-else-strands-eq1.ensures.capacity in omega (arith, room, same),
      ))
    ]

pub returns : goal.returns
returns c = subst (λ (es : List Event). AreStrands es c.loop-event.column.items) c.as_slice-event-items.ensures.events
    (begun_all c.as_slice-event-items.result.now c.loop-event.event-index c.loop-event.strand c.loop-event.column.items c.loop-event-test.false c.loop-event.invariant.0)
