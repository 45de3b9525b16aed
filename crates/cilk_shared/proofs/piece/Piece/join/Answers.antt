use Rattle.cilk_shared.specs.Pieces.{AreOfOne, Adjoining}
use Rattle.cilk_shared.specs.Reducers.{kind_in, events_over}
use Rattle.cilk_shared.proofs.Covering.{covers_both, covers_kept, two_pieces}
use Rattle.cilk_shared.proofs.Shown.{shows_same}
use Rattle.cilk_shared.proofs.piece.Piece.join.Goals as goal

pub together-requires-clause-near : goal.together-requires-clause-near
together-requires-clause-near c = two_pieces Adjoining c.left.view_is c.right.view_is c.requires.near

pub of-requires : goal.of-requires
of-requires c =
    let y = c.args.yard.now in
    let one = two_pieces (AreOfOne y) c.left.view_is c.right.view_is c.requires.one in
    covers_both y c.laws.ensures.order c.left.inside.reducers.value c.right.inside.reducers.value c.left.inside.segment c.right.inside.segment c.left.inside.views c.right.inside.views c.in-Ok.views one.0 one.1 one.2 c.left.invariant c.right.invariant
    (two_pieces Adjoining c.left.view_is c.right.view_is c.requires.near) c.in-Ok.ensures.ranges _ c.together.ensures

pub of-requires-in-Err : goal.of-requires-in-Err
of-requires-in-Err c =
    let g = c.left.inside.segment in
    let r = c.left.inside.reducers.value in
    covers_kept r c.left.inside.views c.in-Err.views g (shows_same (kind_in r) c.left.inside.views c.in-Err.views (events_over g.event_order r g.from g.upto) c.in-Err.ensures.err.0 c.left.invariant.shows) c.left.invariant

pub of-requires-in-Err-2 : goal.of-requires-in-Err-2
of-requires-in-Err-2 c =
    let g = c.right.inside.segment in
    let r = c.right.inside.reducers.value in
    covers_kept r c.right.inside.views c.in-Err.later_views g (shows_same (kind_in r) c.right.inside.views c.in-Err.later_views (events_over g.event_order r g.from g.upto) c.in-Err.ensures.err.1 c.right.invariant.shows) c.right.invariant
