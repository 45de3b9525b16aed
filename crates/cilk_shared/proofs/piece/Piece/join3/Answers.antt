use Rattle.std.proofs.Common.{◌≡◌, refl, sym, ap, ◌∙◌, subst}
use Rattle.cilk_shared.specs.Values.{SegmentValue, Adjoin, both_of}
use Rattle.cilk_shared.specs.Pieces.{AreOfOne, Adjoining, joined, segment_of}
use Rattle.cilk_shared.specs.Reducers.{kind_in, events_over}
use Rattle.cilk_shared.proofs.Covering.{covers_three, covers_kept, two_pieces}
use Rattle.cilk_shared.proofs.Shown.{shows_same}
use Rattle.cilk_shared.proofs.piece.Piece.join3.Goals as goal

pub together-both-requires-clause-near : goal.together-both-requires-clause-near
together-both-requires-clause-near c = two_pieces Adjoining c.left.view_is c.middle.view_is c.requires.near.0

pub together-all-requires-clause-near : goal.together-all-requires-clause-near
together-all-requires-clause-near c =
    let left : joined c.args.left c.args.middle ≡ joined c.args.left c.args.middle = refl in
    let both : both_of c.left.inside.segment c.middle.inside.segment ≡ both_of (segment_of c.args.left) (segment_of c.args.middle) =
    (λ i. both_of (segment_of (c.left.view_is i)) (segment_of (c.middle.view_is i))) in
    let right : c.right.inside.segment ≡ segment_of c.args.right = ap segment_of c.right.view_is in
    subst (λ (x : SegmentValue × SegmentValue). Adjoin x.0 x.1) (λ i. (sym (c.together-both.ensures ∙ both) i, sym right i)) c.requires.near.1

pub of-requires : goal.of-requires
of-requires c =
    let y = c.args.yard.now in
    let one = two_pieces (AreOfOne y) c.left.view_is c.middle.view_is c.requires.one.0 in
    let two = two_pieces (AreOfOne y) c.left.view_is c.right.view_is c.requires.one.1 in
    let near = two_pieces Adjoining c.left.view_is c.middle.view_is c.requires.near.0 in
    let both : both_of c.left.inside.segment c.middle.inside.segment ≡ both_of (segment_of c.args.left) (segment_of c.args.middle) =
    (λ i. both_of (segment_of (c.left.view_is i)) (segment_of (c.middle.view_is i))) in
    let right : c.right.inside.segment ≡ segment_of c.args.right = ap segment_of c.right.view_is in
    let near' : Adjoin (both_of c.left.inside.segment c.middle.inside.segment) c.right.inside.segment = subst (λ (x : SegmentValue × SegmentValue). Adjoin x.0 x.1) (λ i. (sym both i, sym right i)) c.requires.near.1 in
    covers_three y c.laws.ensures.order c.left.inside.reducers.value c.middle.inside.reducers.value c.right.inside.reducers.value c.left.inside.segment c.middle.inside.segment c.right.inside.segment
    c.left.inside.views c.middle.inside.views c.right.inside.views c.in-Ok.views one.0 one.1 two.1 one.2 two.2 c.left.invariant c.middle.invariant c.right.invariant near near' c.in-Ok.ensures.values _ _ c.together-both.ensures c.together-all.ensures

pub of-requires-in-Err : goal.of-requires-in-Err
of-requires-in-Err c =
    let g = c.left.inside.segment in
    let r = c.left.inside.reducers.value in
    covers_kept r c.left.inside.views c.in-Err.first g (shows_same (kind_in r) c.left.inside.views c.in-Err.first (events_over g.event_order r g.from g.upto) c.in-Err.ensures.err.0 c.left.invariant.shows) c.left.invariant

pub of-requires-in-Err-2 : goal.of-requires-in-Err-2
of-requires-in-Err-2 c =
    let g = c.middle.inside.segment in
    let r = c.middle.inside.reducers.value in
    covers_kept r c.middle.inside.views c.in-Err.second g (shows_same (kind_in r) c.middle.inside.views c.in-Err.second (events_over g.event_order r g.from g.upto) c.in-Err.ensures.err.1 c.middle.invariant.shows) c.middle.invariant

pub of-requires-in-Err-3 : goal.of-requires-in-Err-3
of-requires-in-Err-3 c =
    let g = c.right.inside.segment in
    let r = c.right.inside.reducers.value in
    covers_kept r c.right.inside.views c.in-Err.third g (shows_same (kind_in r) c.right.inside.views c.in-Err.third (events_over g.event_order r g.from g.upto) c.in-Err.ensures.err.2 c.right.invariant.shows) c.right.invariant
