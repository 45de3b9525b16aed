use Rattle.std.proofs.Common.{arith}
use Rattle.cilk_cells.proofs.Pass.{fits_next}
use Rattle.cilk_cells.proofs.histories.cells_of.Goals as goal
use Rattle.cilk_cells.proofs.histories.cells_of.Goals.{in-Some+then-cell-cells, in-Some+else-cell-cells, in_default}

pub loop-event-preserved : goal.loop-event-preserved
loop-event-preserved c =
    let before = c.loop-event.invariant in (
      fits_next _ _ _ c.match-cell_of.cells _ _ before.0 c.loop-event-test.true
          (elim c.match-cell_of.branch [
            | in-Some+then-cell-cells w ↦ (w.in-Some.ensures.some c.match-cell_of.cells).1 (omega (arith, w.cells-is))
            | in-Some+else-cell-cells w ↦ (w.in-Some.ensures.some c.match-cell_of.cells).1 (omega (arith, w.cells-is, w.if-cell-cells.false))
            | in_default w ↦ w.in_default.ensures.none c.match-cell_of.cells
          ])
          (elim c.match-cell_of.branch [
            | in-Some+then-cell-cells w ↦ omega (arith, w.cells-is, w.if-cell-cells.true)
            | in-Some+else-cell-cells w ↦ omega (arith, w.cells-is)
            | in_default w ↦ omega (arith, w.cells-is)
          ])
          (omega arith),
      λ n h.
          let least = before.1 n (λ k e l. h k e (omega arith)) in
          elim c.match-cell_of.branch [
            | in-Some+then-cell-cells w ↦ (let l = (w.in-Some.ensures.some n).0 (h _ _ (omega arith)) in omega (arith, l, w.cells-is))
            | in-Some+else-cell-cells w ↦ omega (arith, least, w.cells-is)
            | in_default w ↦ omega (arith, least, w.cells-is)
          ],
    )
