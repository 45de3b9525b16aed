use Rattle.std.proofs.Common.{◌≡◌, ◌≤◌, sym, ◌∙◌, subst, arith}
use Rattle.cilk_shared.specs.Values.{SegmentValue}
use Rattle.cilk_shared.specs.declared.reducers.Reducers.{Reducers}
use Rattle.cilk_shared.specs.Pieces.{PieceValue}
use Rattle.cilk_shared.specs.Settled.{AreSettled}
use Rattle.cilk_shared.proofs.Covering.{of_piece, covers_none}
use Rattle.cilk_shared.proofs.piece.Piece.apart.Goals as goal

pub invariant_of-result-2 : goal.invariant_of-result-2
invariant_of-result-2 c =
    let g = c.self.inside.segment in
    let r : Reducers = c.of.result.value in
    let same = of_piece (λ (p : PieceValue). c.args.reducers.now ≡ p.reducers) c.self.view_is c.requires.reducers in
    let settled : AreSettled g.event_order r = subst (λ (q : Reducers). AreSettled g.event_order q) (sym (c.of.ensures ∙ same)) c.self.invariant.settled in
    let e = c.apart-segment.ensures.second in
    covers_none r c.new.result c.new.ensures c.apart-segment.result.1 (subst (λ (h : SegmentValue). AreSettled h.event_order r) (sym e) settled) (subst (λ (h : SegmentValue). h.upto ≤ h.from) (sym e) (omega arith))
