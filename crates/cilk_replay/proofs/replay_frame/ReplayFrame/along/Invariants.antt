use Rattle.std.proofs.Common.{◌≡◌, ◌≤◌, ◌+◌, ◌-◌, length}
use Rattle.cilk_types.specs.declared.limits.TheConstants.{MAX_TICKS}
use Rattle.cilk_shared.specs.Pieces.{PieceValue}
use Rattle.cilk_replay.proofs.Along.{event_order_of}
use Rattle.cilk_replay.proofs.Stretches.{Between, frame_of}
use Rattle.cilk_replay.proofs.replay_frame.ReplayFrame.along.Given as goal

abbrev pub invariant-each : goal.invariant-each
invariant-each g l =
    let start = l.fn.self in
    let before = l.fn.piece in
    let now = l.piece in
    record {
      few : l.left ≤ MAX_TICKS;
      sight : l.self.sight ≡ start.sight;
      between : Between l.replay before.upto l.fn.asked l.fn.self now.upto l.asked (frame_of l.cursor l.left start.sight) l.answer;
      reached : (first : PieceValue) → g.M.Maker.reaches l.maker first l.fn.piece → g.M.Maker.reaches l.maker first l.piece;
    }

abbrev pub decreases-each : goal.decreases-each
decreases-each g l = let now = l.piece in let s = event_order_of l.replay in length s.events + 1 - now.upto
