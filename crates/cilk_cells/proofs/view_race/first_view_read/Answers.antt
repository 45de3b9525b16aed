use Rattle.std.proofs.Common.{arith, ap, length, inl, inr, sym, subst, refl}
use Rattle.cilk_tree.specs.Tree.{tree}
use Rattle.cilk_cells.proofs.Pass.{here_event, here_strand, begun_once}
use Rattle.cilk_cells.proofs.Firsts.{Standing, here, standing_first, standing_other, standing_read, standing_found, standing_last, strands_classed, no_reads}
use Rattle.cilk_cells.proofs.view_race.first_view_read.Goals as goal
use Rattle.cilk_cells.proofs.view_race.first_view_read.Goals.{then-strand-eq0-via-then-strand-eq0, then-strand-eq0-via-else-strand-eq0+then-strand-count, in-Some+else-strand-eq0+else-strand-count+in_ok-first+else-is_apart, in_default}

pub loop-index-init : goal.loop-index-init
loop-index-init c = standing_first _ _ _ _ refl c.new-firsts.ensures

pub loop-index-preserved : goal.loop-index-preserved
loop-index-preserved c =
    let i = c.loop-index.invariant in
    elim c.match-instance_of.branch [
      | in-Some+else-strand-eq0+else-strand-count+in_ok-first+else-is_apart w ↦ subst (Standing _ _ _ _) (sym w.firsts-is) (
          standing_read _ _ _ _ _ _ _ _ _ _ w.meet.new.self i
          (here _ _ _ _ _ _ _ _ _ c.as_slice-events.ensures.events c.loop-index-test.true i.strand i.few c.of.ensures c.strands-strand.ensures w.class.ensures)
          w.in-Some.ensures w.in_ok-first.ensures.first w.in_ok-first.ensures.kept w.if-is_apart.false)
      | in_default w ↦ subst (Standing _ _ _ _) (sym w.firsts-is) (
          standing_other _ _ _ _ _ _ _ i (here_event _ _ _ _ c.as_slice-events.ensures.events c.loop-index-test.true)
          (here_strand _ _ _ _ _ _ _ c.as_slice-events.ensures.events c.loop-index-test.true i.strand c.of.ensures c.strands-strand.ensures)
          (let k = begun_once c.of.result in let l = c.strands-strand.ensures in let j = i.few in omega (arith, j, k, l))
          w.in_default.ensures)
    ]

pub returns-then-is_apart : goal.returns-then-is_apart
returns-then-is_apart c = λ s sp k.
    let i = c.loop-index.invariant in
    standing_found _ _ _ _ _ _ _ _ _ _ i
    (here _ _ _ _ _ _ _ _ _ c.as_slice-events.ensures.events c.loop-index-test.true i.strand i.few c.of.ensures c.strands-strand.ensures c.class.ensures)
    c.in-Some.ensures c.in_ok-first.ensures.first c.if-is_apart.true s sp k

pub returns-then-strand-eq0 : goal.returns-then-strand-eq0
returns-then-strand-eq0 c = λ s sp k p q r.
    let i = c.loop-index.invariant in
    let n = here_strand _ _ _ _ _ _ _ c.as_slice-events.ensures.events c.loop-index-test.true i.strand c.of.ensures c.strands-strand.ensures in
    elim c.then-strand-eq0.branch [
      | then-strand-eq0-via-then-strand-eq0 w ↦ absurd (strands_classed _ _ _ _ n (inl w.if-strand-eq0.true) s sp k)
      | then-strand-eq0-via-else-strand-eq0+then-strand-count w ↦ absurd (strands_classed _ _ _ _ n (inr (let j = w.count.ensures in let l = w.if-strand-count.true in omega (arith, j, l))) s sp k)
    ]

pub returns : goal.returns
returns c = λ s sp k.
    standing_last _ _ _ _ _ c.loop-index.invariant (let j = ap (λ (x : _). length x) c.as_slice-events.ensures.events in let l = c.loop-index-test.false in omega (arith, j, l)) s sp k

pub returns-then-not-has_read : goal.returns-then-not-has_read
returns-then-not-has_read c = λ s sp k. no_reads (tree s) _ _ c.as_slice-events.ensures.events (c.has_read.ensures c.if-not-has_read.true)
