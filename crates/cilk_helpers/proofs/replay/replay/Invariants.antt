use Rattle.std.proofs.Common.{◌≡◌, ◌≤◌, IfSome, Some, drop, length}
use Rattle.cilk_types.specs.declared.limits.TheConstants.{MAX_TICKS}
use Rattle.cilk_frames.specs.Following.{Fits, Runs}
use Rattle.cilk_frames.specs.declared.cursor.Answer.TheVariants.{Done}
use Rattle.cilk_helpers.specs.Notes.{AreTold}
use Rattle.cilk_helpers.proofs.Noting.{Goes}
use Rattle.cilk_helpers.proofs.replay.replay.Given as goal

abbrev pub invariant-each : goal.invariant-each
invariant-each l = record {
  goes : Goes l.code l.input l.fn.cursor MAX_TICKS l.notes.items l.cursor l.left;
  runs : IfSome l.told (λ a. Runs l.code l.input l.cursor × Fits l.cursor.owed a);
  few : l.next ≤ l.count;
  told : AreTold l.words (Some Done) l.notes.items (drop l.next l.words) l.told;
  long : length l.notes.items ≡ l.count;
}
