-- The last values of global reducers.
--
-- - `finals_next`, `finals_same`: one more value; for other views with the same values.
use Rattle.std.proofs.Common.{◌≡◌, ℕ, suc, ◌+◌, ◌<◌, List, [], ◌∷◌, ◌++◌, length, take, get_or, refl, sym, ap, ◌∙◌, arith, length-take}
use Rattle.std.proofs.lemmas.List.{take_more}
use Rattle.cilk_types.specs.declared.outcome.Final.{Final}
use Rattle.cilk_monoid.specs.declared.kind.MonoidKind.{MonoidKind}
use Rattle.cilk_monoid.specs.Kinds.{final_of}
use Rattle.cilk_hypermap.specs.Hypermap.{value_in}
use Rattle.cilk_hypermap.specs.declared.hypermap.Hypermap.{Hypermap}
use Rattle.cilk_program.specs.SerialRun.{global_reducer}
use Rattle.cilk_frames.specs.Leaving.{finals_of}

finals_more : (h : Hypermap) (from : ℕ) (ks : List MonoidKind) (k : MonoidKind) → finals_of h from (ks ++ k ∷ []) ≡ finals_of h from ks ++ final_of (value_in h k (global_reducer (from + length ks))) ∷ []
finals_more h from [] k = let e : from ≡ from + 0 = omega arith in ap (λ n. final_of (value_in h k (global_reducer n)) ∷ []) e
finals_more h from (j ∷ ks) k =
    let e : suc from + length ks ≡ from + suc (length ks) = omega arith in
    ap (λ l. final_of (value_in h j (global_reducer from)) ∷ l) (finals_more h (suc from) ks k ∙ ap (λ n. finals_of h (suc from) ks ++ final_of (value_in h k (global_reducer n)) ∷ []) e)

pub finals_next : (h : Hypermap) (ks : List MonoidKind) (n : ℕ) (k d : MonoidKind) (list list' : List Final) → n < length ks → k ≡ get_or ks n d
    → list ≡ finals_of h 0 (take n ks) → list' ≡ list ++ final_of (value_in h k (global_reducer n)) ∷ [] → list' ≡ finals_of h 0 (take (n + 1) ks)
finals_next h ks n k d list list' low is e e' =
    let l : 0 + length (take n ks) ≡ n = omega (arith, low, length-take n ks) in
    let more : take (n + 1) ks ≡ take n ks ++ k ∷ [] = take_more ks n d low ∙ ap (λ x. take n ks ++ x ∷ []) (sym is) in
    e' ∙ ap (λ l. l ++ final_of (value_in h k (global_reducer n)) ∷ []) e
    ∙ ap (λ j. finals_of h 0 (take n ks) ++ final_of (value_in h k (global_reducer j)) ∷ []) (sym l)
    ∙ sym (ap (finals_of h 0) more ∙ finals_more h 0 (take n ks) k)

pub finals_same : (h h' : Hypermap) → ((n : ℕ) (k : MonoidKind) → value_in h' k (global_reducer n) ≡ value_in h k (global_reducer n)) → (from : ℕ) (ks : List MonoidKind) → finals_of h' from ks ≡ finals_of h from ks
finals_same h h' same from [] = refl
finals_same h h' same from (k ∷ ks) = ap (λ v. final_of v ∷ finals_of h' (suc from) ks) (same from k) ∙ ap (λ l. final_of (value_in h k (global_reducer from)) ∷ l) (finals_same h h' same (suc from) ks)
