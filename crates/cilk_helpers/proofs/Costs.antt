-- The ticks that replays cost.
--
-- - `at_most`: a replay costs at most the ticks of a run; `one_more`: one more replay.
use Rattle.std.proofs.Common.{◌≡◌, ◌+◌, ◌≤◌, List, [], ◌∷◌, ◌++◌, ap, ◌∙◌, arith}
use Rattle.std.proofs.lemmas.List.Sums.{sum_by-append}
use Rattle.cilk_types.specs.declared.limits.TheConstants.{MAX_TICKS}
use Rattle.cilk_helpers.specs.Asked.{NoteView}
use Rattle.cilk_helpers.specs.Replayed.{ticks_in, ticks_of}
use Rattle.cilk_helpers.specs.declared.replayed.Replayed.{Replayed}

few_ticks : (notes : List NoteView) → ticks_of notes ≤ MAX_TICKS
few_ticks [] = omega arith
few_ticks (last ∷ before) = omega arith

pub at_most : (r : Replayed) → r.ticks ≡ ticks_of r.replay.notes.items → r.ticks ≤ MAX_TICKS
at_most r e = let few = few_ticks r.replay.notes.items in omega (arith, few, e)

pub one_more : (xs ys : List Replayed) (x : Replayed) → ys ≡ xs ++ x ∷ [] → ticks_in ys ≡ ticks_in xs + x.ticks
one_more xs ys x is = ap ticks_in is ∙ sum_by-append (λ (r : Replayed). r.ticks) xs (x ∷ []) ∙ let e : ticks_in xs + (0 + x.ticks) ≡ ticks_in xs + x.ticks = omega arith in e
