use Rattle.std.proofs.Common.{◌≡◌, ◌+◌, ◌-◌, ◌≤◌, false, length, take}
use Rattle.cilk_cert_text.specs.Reading.{strand_forms}
use Rattle.cilk_checker.specs.Expected.{Spells}
use Rattle.cilk_checker.proofs.blocks.spell_strands.Given as goal

abbrev pub invariant-strands : goal.invariant-strands
invariant-strands l = record {
  spells : Spells l.right (strand_forms (l.fn.tally.owners.agreed + 1) (l.tally.owners.agreed - l.fn.tally.owners.agreed)) l.fn.tally l.tally (take l.done l.room);
  within : l.done ≤ length l.room;
  more : l.fn.tally.owners.agreed ≤ l.tally.owners.agreed;
  agree : l.tally.owners.differs ≡ false;
  hebrews : l.tally.hebrews ≡ l.tally.owners;
  classes : l.tally.classes ≡ l.tally.owners;
  same : l.tally ≡ record l.fn.tally { owners = l.tally.owners; hebrews = l.tally.owners; classes = l.tally.owners };
}

abbrev pub decreases-strands : goal.decreases-strands
decreases-strands l = length l.room - l.done
