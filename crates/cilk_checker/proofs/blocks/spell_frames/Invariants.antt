use Rattle.std.proofs.Common.{◌≡◌, ◌+◌, ◌-◌, ◌≤◌, false, length, take}
use Rattle.cilk_cert_text.specs.Reading.{frame_forms}
use Rattle.cilk_checker.specs.Expected.{Spells}
use Rattle.cilk_checker.proofs.blocks.spell_frames.Given as goal

abbrev pub invariant-frames : goal.invariant-frames
invariant-frames l = record {
  spells : Spells l.right (frame_forms (l.fn.tally.frames.agreed + 1) (l.tally.frames.agreed - l.fn.tally.frames.agreed)) l.fn.tally l.tally (take l.done l.room);
  within : l.done ≤ length l.room;
  more : l.fn.tally.frames.agreed ≤ l.tally.frames.agreed;
  agree : l.tally.frames.differs ≡ false;
  same : l.tally ≡ record l.fn.tally { frames = l.tally.frames };
}

abbrev pub decreases-frames : goal.decreases-frames
decreases-frames l = length l.room - l.done
