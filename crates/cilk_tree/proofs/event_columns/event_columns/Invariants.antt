use Rattle.std.proofs.Common.{◌≡◌, ◌≤◌, length, map, take}
use Rattle.std.specs.Vec.{vec_capacity}
use Rattle.cilk_tree.specs.Kinds.{kind_of}
use Rattle.cilk_tree.proofs.Framed.{SoFar}
use Rattle.cilk_tree.proofs.Numbered.{AreNumbers}
use Rattle.cilk_tree.proofs.event_columns.event_columns.Given as goal

abbrev pub invariant-loop-event : goal.invariant-loop-event
invariant-loop-event l = record {
  place : l.at ≡ l.event-index;
  kinds : l.kinds.items ≡ map kind_of (take l.event-index l.event-items);
  many : length l.kinds.items ≡ l.event-index;
  frames : SoFar l.event-items l.event-index l.frames.items l.frame;
  earliest : AreNumbers l.event-items l.event-index l.earliest.items l.pass;
  kinds_fit : length l.event-items ≤ vec_capacity l.kinds;
  frames_fit : length l.event-items ≤ vec_capacity l.frames;
  earliest_fit : length l.event-items ≤ vec_capacity l.earliest;
}
