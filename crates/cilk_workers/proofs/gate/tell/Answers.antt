use Rattle.std.proofs.Common.{◌≡◌, ◌-◌, refl, ap, ◌∙◌, arith}
use Rattle.cilk_shared.specs.Values.{SegmentValue}
use Rattle.cilk_workers.proofs.Begun.{begins}
use Rattle.cilk_workers.proofs.gate.tell.Goals as goal

pub at-requires : goal.at-requires
at-requires g c =
    let lent = c.segment.ensures in
    let from : c.segment.result.now.from ≡ c.args.piece.now.from = ap (λ (h : SegmentValue). h.from) lent in
    let upto : c.segment.result.now.upto ≡ c.args.piece.now.upto = ap (λ (h : SegmentValue). h.upto) lent in
    let some = c.requires.1 in
    let last = c.upto-upto.ensures in
    begins c.args.shared.now.run.event_order c.segment.result.now (c.upto-upto.result - 1) c.strand_at-strand.result (ap (λ (h : SegmentValue). h.event_order) lent ∙ c.requires.0.1)
    ((c.strand_at-strand.ensures c.strand_at-strand.result (let some = c.if-strand-gt0.true in omega (arith, some))).0 refl) (omega (arith, upto, some, last)) (omega (arith, from, some, last))
