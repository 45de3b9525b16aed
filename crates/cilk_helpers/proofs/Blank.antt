-- The replay of nothing, and a share with no frame.
use Rattle.std.proofs.Common.{◌≡◌, ℤ, List, [], reverse, refl, sym, subst}
use lib.Signed.{<ℤ_irrefl}
use Rattle.std.proofs.lemmas.List.Elements.{All-nil, All-same}
use Rattle.cilk_types.specs.declared.limits.TheConstants.{MAX_TICKS}
use Rattle.cilk_program.specs.declared.ask.Callee.{Callee}
use Rattle.cilk_program.specs.Inside.{CalleeIsFit}
use Rattle.cilk_program.specs.Syntax.{Source}
use Rattle.cilk_lower.specs.Code.{CodeView}
use Rattle.cilk_frames.specs.Cursor.{first_of}
use Rattle.cilk_helpers.specs.declared.whole.Replay.{Replay}
use Rattle.cilk_helpers.specs.Asked.{NoteView, nothing}
use Rattle.cilk_helpers.specs.Notes.{AreNotes}
use Rattle.cilk_helpers.specs.Whole.{IsKept}
use Rattle.cilk_helpers.specs.declared.rounds.Share.{Share}
use Rattle.cilk_helpers.specs.Replayed.{AreFitting, IsFitting}

unfit : (p : Source) → CalleeIsFit p nothing → ⊥
unfit p fit = <ℤ_irrefl fit.1

pub blank : (code : CodeView) (p : Source) (inputs : List ℤ) (r : Replay) → r.callee ≡ nothing → r.notes.items ≡ [] → IsKept code p inputs r
blank code p inputs r callee none = record {
  cursor = first_of code r.callee;
  stands = λ fit. absurd (unfit p (subst (λ (c : Callee). CalleeIsFit p c) callee fit));
  owes = refl;
  notes = subst (λ (ns : List NoteView). AreNotes code inputs (first_of code r.callee) MAX_TICKS (reverse ns)) (sym none) tt;
}

pub idle : (p : Source) (s : Share) → s.frames.items ≡ [] → AreFitting p s
idle p s none = All-same (IsFitting p) s.frames.items [] none (All-nil (IsFitting p))
