use Rattle.std.proofs.Common.{◌∙◌, refl, inr, arith, ap, length}
use Rattle.cilk_cells.proofs.Pass.{begun_once, fits_here, here_begun, here_on, here_strand, standing_first, standing_next, standing_found, standing_last, strands_labelled}
use Rattle.cilk_cells.proofs.race.first_race.Goals as goal
use Rattle.cilk_cells.proofs.race.first_race.Goals.{then-strands-gt0+else-strand-count, else-strands-gt0}

pub loop-index-init : goal.loop-index-init
loop-index-init c = standing_first _ _ 0 0 _ _ _ refl c.as_slice-events.ensures.events c.cells_of.ensures.room c.in_ok-histories.ensures

pub loop-index-preserved : goal.loop-index-preserved
loop-index-preserved c =
    let i = c.loop-index.invariant in
    standing_next _ _ _ _ _ _ _ _ _ _ i
    (elim c.if-strands-gt0.branch [
      | then-strands-gt0+else-strand-count w ↦ here_begun _ _ _ _ _ _ _ _ _ _ c.as_slice-events.ensures.events c.loop-index-test.true i.strand i.few c.of.ensures c.strands.ensures w.if-strands-gt0.true
          w.strand-is (w.hebrew-is ∙ w.hebrew-hebrew.ensures)
      | else-strands-gt0 w ↦ here_on _ _ _ _ _ _ _ _ _ _ _ c.as_slice-events.ensures.events c.loop-index-test.true i.strand i.few c.of.ensures c.strands.ensures w.if-strands-gt0.false
          w.strand-is w.hebrew-is i.hebrew
    ])
    (fits_here _ _ _ _ _ c.as_slice-events.ensures.events c.loop-index-test.true i.fit)
    c.in_default.ensures.answer c.in_default.ensures.kept

pub returns-in-Some : goal.returns-in-Some
returns-in-Some c = λ s sp lb.
    let i = c.loop-index.invariant in
    standing_found _ _ _ _ _ _ _ _ _ _ i
    (elim c.if-strands-gt0.branch [
      | then-strands-gt0+else-strand-count w ↦ here_begun _ _ _ _ _ _ _ _ _ _ c.as_slice-events.ensures.events c.loop-index-test.true i.strand i.few c.of.ensures c.strands.ensures w.if-strands-gt0.true
          w.strand-is (w.hebrew-is ∙ w.hebrew-hebrew.ensures)
      | else-strands-gt0 w ↦ here_on _ _ _ _ _ _ _ _ _ _ _ c.as_slice-events.ensures.events c.loop-index-test.true i.strand i.few c.of.ensures c.strands.ensures w.if-strands-gt0.false
          w.strand-is w.hebrew-is i.hebrew
    ])
    (fits_here _ _ _ _ _ c.as_slice-events.ensures.events c.loop-index-test.true i.fit)
    c.in-Some.ensures.answer s sp lb

pub returns-then-strand-count : goal.returns-then-strand-count
returns-then-strand-count c = λ s sp lb p q r.
    let i = c.loop-index.invariant in
    let n = here_strand _ _ _ _ _ _ _ c.as_slice-events.ensures.events c.loop-index-test.true i.strand c.of.ensures c.strands.ensures in
    absurd (strands_labelled _ _ _ _ n
    (inr (let b = begun_once c.of.result in let x = c.strands.ensures in let some = c.if-strands-gt0.true in let k = c.count.ensures in let l = c.if-strand-count.true in omega (arith, b, x, some, k, l))) s sp lb)

pub returns : goal.returns
returns c = λ s sp lb.
    standing_last _ _ _ _ _ _ c.loop-index.invariant (let k = ap (λ (x : _). length x) c.as_slice-events.ensures.events in let l = c.loop-index-test.false in omega (arith, k, l)) s sp lb
