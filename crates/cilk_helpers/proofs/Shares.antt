-- The shares of the helpers.
--
-- - `numbered_more`, `numbered_set`: one more share, and a changed one; `helper_at`: whose share it is;
-- - `unowned`: a share with no frame.
use Rattle.std.proofs.Common.{◌≡◌, ℕ, ◌+◌, ◌<◌, List, [], ◌∷◌, ◌++◌, get_or, length, map, set, sym, ap, ap₂, subst, ◌∙◌, arith}
use Rattle.std.specs.List.{range_with_len}
use Rattle.std.proofs.Math.Seq.{map-set_same}
use Rattle.std.proofs.lemmas.List.{get_or-map, length-set, length_push, map-append}
use Rattle.std.proofs.lemmas.List.Elements.{All-nil, All-same}
use Rattle.std.proofs.lemmas.List.FromFn.{get_or-map-range_with_len, map-range_with_len_more}
use Rattle.cilk_helpers.specs.declared.rounds.Share.{Share}
use Rattle.cilk_helpers.specs.Replayed.{AreNumbered, IsOwn, IsTurnOf}

abbrev number : Share → ℕ
number s = s.helper

abbrev next : ℕ → ℕ
next k = k + 1

abbrev first : ℕ → List ℕ
first n = map next (range_with_len 0 n)

pub numbered_more : (xs ys : List Share) (x : Share) → ys ≡ xs ++ x ∷ [] → AreNumbered xs → x.helper ≡ length xs + 1 → AreNumbered ys
numbered_more xs ys x is h e =
    let n = length xs in
    let P : List Share → Type 0 = λ zs. AreNumbered zs in
    subst P (sym is)
    (map-append number xs (x ∷ []) ∙ ap₂ (λ (l : List ℕ) (b : ℕ). l ++ b ∷ []) h e ∙ sym (map-range_with_len_more next 0 n n (omega arith))
    ∙ ap first (sym (length_push xs x)))

pub numbered_set : (xs : List Share) (i : ℕ) (y d : Share) → y.helper ≡ (get_or xs i d).helper → AreNumbered xs → AreNumbered (set xs i y)
numbered_set xs i y d e h = map-set_same number xs i y d e ∙ h ∙ ap first (sym (length-set xs i y))

pub helper_at : (xs : List Share) (i : ℕ) (d : Share) → i < length xs → AreNumbered xs → (get_or xs i d).helper ≡ i + 1
helper_at xs i d lt h =
    sym (get_or-map number xs i d 0 lt) ∙ ap (λ (l : List ℕ). get_or l i 0) h ∙ get_or-map-range_with_len next 0 (length xs) i i 0 lt (omega arith)

pub unowned : (helpers : ℕ) (s : Share) → s.frames.items ≡ [] → IsOwn helpers s
unowned helpers s none = All-same (IsTurnOf helpers s.helper) s.frames.items [] none (All-nil (IsTurnOf helpers s.helper))
