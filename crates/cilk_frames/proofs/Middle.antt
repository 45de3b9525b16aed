-- The middle of two words, computed in 128 bits.
use Rattle.std.proofs.Common.{◌≡◌, ℤ, pos, ◌+ℤ◌, ◌-ℤ◌, sym, ap, ◌∙◌, subst, arith, w64, SFits, to_z, of_z}
use Rattle.std.specs.Prelude.{int_div}
use Rattle.std.proofs.lemmas.Int.{ints, to_z-of_z, quot-rem, rem_below, quot_fits}
use mir.Syntax.{w128}
use Rattle.cilk_program.specs.Behaviour.{middle}

-- a number that fits in 128 bits
abbrev wide : ℤ → ℤ
wide z = to_z w128 (of_z w128 z)

-- a number that fits in a word
abbrev word : ℤ → ℤ
word z = to_z w64 (of_z w64 z)

abbrev computed : ℤ → ℤ → ℤ
computed low high = wide (wide low +ℤ wide (int_div (wide (wide high -ℤ wide low)) (pos 2)))

widens : (z : ℤ) → SFits w64 z → SFits w128 z
widens z f = record { sfits = omega (arith, f.sfits) }

distance_fits : (low high : ℤ) → SFits w64 low → SFits w64 high → SFits w128 (high -ℤ low)
distance_fits low high f g = omega (arith, ints)

middle_fits : (low high : ℤ) → SFits w64 low → SFits w64 high → SFits w64 (middle low high)
middle_fits low high f g =
    let d : ℤ = high -ℤ low in
    let whole = quot-rem d (pos 2) in
    let below = rem_below d (pos 2) (omega arith) in
    omega (arith, ints)

wide_is : (z : ℤ) → SFits w128 z → wide z ≡ z
wide_is z f = to_z-of_z w128 z f

computed_middle : (low high : ℤ) → SFits w64 low → SFits w64 high → computed low high ≡ middle low high
computed_middle low high f g =
    let same_low = wide_is low (widens low f) in
    let same_high = wide_is high (widens high g) in
    let fits = distance_fits low high f g in
    let distance : wide (wide high -ℤ wide low) ≡ high -ℤ low =
    ap (λ x. wide (x -ℤ wide low)) same_high ∙ ap (λ x. wide (high -ℤ x)) same_low ∙ wide_is (high -ℤ low) fits in
    let half : wide (int_div (wide (wide high -ℤ wide low)) (pos 2)) ≡ int_div (high -ℤ low) (pos 2) =
    ap (λ d. wide (int_div d (pos 2))) distance ∙ wide_is (int_div (high -ℤ low) (pos 2)) (quot_fits w128 (high -ℤ low) (pos 2) fits (omega (arith, ints))) in
    ap (λ q. wide (wide low +ℤ q)) half
    ∙ ap (λ x. wide (x +ℤ int_div (high -ℤ low) (pos 2))) same_low
    ∙ wide_is (middle low high) (widens (middle low high) (middle_fits low high f g))

computed_as : (low high l h : ℤ) → SFits w64 low → SFits w64 high → l ≡ word low → h ≡ word high → computed l h ≡ middle low high
computed_as low high l h f g el eh = ap (λ x. computed x h) (el ∙ to_z-of_z w64 low f) ∙ ap (computed low) (eh ∙ to_z-of_z w64 high g) ∙ computed_middle low high f g

pub cast_fits : (low high l h : ℤ) → SFits w64 low → SFits w64 high → l ≡ word low → h ≡ word high → SFits w64 (computed l h)
cast_fits low high l h f g el eh = subst (SFits w64) (sym (computed_as low high l h f g el eh)) (middle_fits low high f g)

pub computed_is : (low high l h : ℤ) → SFits w64 low → SFits w64 high → l ≡ word low → h ≡ word high → word (computed l h) ≡ middle low high
computed_is low high l h f g el eh =
    ap word (computed_as low high l h f g el eh) ∙ to_z-of_z w64 (middle low high) (middle_fits low high f g)
