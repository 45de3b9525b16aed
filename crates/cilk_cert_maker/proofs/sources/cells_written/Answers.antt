use Rattle.std.proofs.Common.{arith}
use Rattle.cilk_cert_maker.proofs.Fitting.{fits_at, fits_next, all_fit}
use Rattle.cilk_cert_maker.proofs.sources.cells_written.Goals as goal
use Rattle.cilk_cert_maker.proofs.sources.cells_written.Goals.{then-needed-cells, else-needed-cells}

pub loop-event-preserved : goal.loop-event-preserved
loop-event-preserved c = record {
  fit =
      fits_next _ _ _ _ _ _ c.loop-event.invariant.fit c.loop-event-test.true c.cells_in-needed.ensures.fit
      (elim c.if-needed-cells.branch [ then-needed-cells w ↦ omega arith | else-needed-cells w ↦ omega arith ])
      (elim c.if-needed-cells.branch [ then-needed-cells w ↦ omega arith | else-needed-cells w ↦ omega arith ]);
  least = λ n h.
      let before = c.loop-event.invariant.least n h in
      let here = c.cells_in-needed.ensures.least n (fits_at _ _ n _ h c.loop-event-test.true) in
      elim c.if-needed-cells.branch [ then-needed-cells w ↦ omega (arith, here) | else-needed-cells w ↦ omega (arith, before) ];
}

pub returns : goal.returns
returns c = record { fit = all_fit _ _ _ c.loop-event.invariant.fit c.loop-event-test.false; least = c.loop-event.invariant.least }
