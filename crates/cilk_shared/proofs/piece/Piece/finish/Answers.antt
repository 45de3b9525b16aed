use Rattle.std.proofs.Common.{◌≡◌, sym, ap, ◌∙◌, subst}
use Rattle.cilk_tree.specs.Frames.{IsInFrame}
use Rattle.cilk_shared.specs.Values.{NextFinish}
use Rattle.cilk_tree.specs.declared.event_order.EventOrder.{EventOrder}
use Rattle.cilk_tree.specs.Orders.{IsOrderly}
use Rattle.cilk_tree.specs.Word.{word_step, event, predecessors_of, finish, IsLine}
use Rattle.cilk_shared.specs.Pieces.{PieceValue, IsPieceOf, segment_of}
use Rattle.cilk_shared.proofs.Covering.{of_piece, covers_end, behind_line}
use Rattle.cilk_shared.proofs.Quiet.{finish_event}
use Rattle.cilk_shared.proofs.Settling.{begins_first}
use Rattle.cilk_shared.proofs.piece.Piece.finish.Goals as goal

pub invariant_of-self : goal.invariant_of-self
invariant_of-self c =
    let y = c.args.yard.now in
    let g = c.self.inside.segment in
    let r = c.self.inside.reducers.value in
    let of = of_piece (IsPieceOf y) c.self.view_is c.requires.yard in
    let next = of_piece (λ (p : PieceValue). NextFinish y (segment_of p)) c.self.view_is c.requires.next in
    let law : IsOrderly g.event_order = subst IsOrderly (sym of.1) c.laws.ensures.order in
    let is : word_step g.event_order g.upto ≡ finish = ap (λ (z : EventOrder). word_step z g.upto) of.1 ∙ next.1 in
    let mine = of_piece (λ (p : PieceValue). IsInFrame p.event_order.events p.upto c.args.root) c.self.view_is c.requires.root in
    let same = of_piece (λ (p : PieceValue). c.args.reducers.now ≡ p.reducers) c.self.view_is c.requires.reducers.0 in
    covers_end c.self.inside.views c.retire_own.new.views r g c.self.invariant next.0.0 (behind_line g.event_order law g.from g.upto next.0.0 (subst IsLine (sym is) tt))
    (finish_event g.event_order.events g.upto (event g.event_order g.upto) (predecessors_of g.event_order g.upto) is) c.args.root mine c.args.reducers.now same c.retire_own.ensures _ c.finish.ensures

pub returns-clause-begins : goal.returns-clause-begins
returns-clause-begins c =
    let y = c.args.yard.now in
    let g = c.self.inside.segment in
    let r = c.self.inside.reducers.value in
    let of = of_piece (IsPieceOf y) c.self.view_is c.requires.yard in
    let next = of_piece (λ (p : PieceValue). NextFinish y (segment_of p)) c.self.view_is c.requires.next in
    let law : IsOrderly g.event_order = subst IsOrderly (sym of.1) c.laws.ensures.order in
    let is : word_step g.event_order g.upto ≡ finish = ap (λ (z : EventOrder). word_step z g.upto) of.1 ∙ next.1 in
    let i = c.self.invariant in
    subst (λ (p : PieceValue). p.from ≡ 1) c.self.view_is (begins_first g.event_order law r i.settled g.from g.upto (i.begins next.0.0) i.whole next.0.0 is)
