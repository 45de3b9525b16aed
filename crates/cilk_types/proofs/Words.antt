-- Words are whole numbers modulo 2^64, and their division is exact.
use Rattle.std.proofs.Common.{◌≡◌, ◌≢◌, ℕ, zero, suc, ◌+◌, ◌-◌, ◌*◌, ◌/◌, ◌%◌, ◌^◌, ◌<◌, ◌≤◌, ltb, Bool, true, false, ℤ, pos, negsuc, ◌+ℤ◌, ◌*ℤ◌, ◌≤ℤ◌, refl, sym, ap, ◌∙◌, arith, w64, Some}
use Rattle.std.specs.Prelude.{int_div, int_rem, unsigned_abs}
use Rattle.std.specs.Int.{int_wrap, cast_signed}
use Rattle.std.proofs.lemmas.Int.{ints, SFits-int_wrap, quot-rem, rem_below, fits_signed_from_abs, int_wrap_fits}
use Rattle.std.proofs.Math.IntN.{*ℤ_comm}
use Rattle.std.specs.Int.RustNames.{FitsSigned}
use Rattle.cilk_types.proofs.Quotients.{abs_quotient}
use mir.Val.{sel}
use native.Mathlib.Nat.{mod-le, div-le_self, div-mul-le_self, mul-le-mul_left}
use Rattle.cilk_types.specs.Word.{word_of, quotient, remainder, IsWordOf, IsDivision, HasOneWord, Divides, DividesExactly, IsOutsideWords, DividesWithin}

-- the signed value of n's bits is n, less a multiple of 2^64
reads : (n : ℕ) → n < 2 ^ 64 → (t : Bool) → ltb n (2 ^ 63) ≡ t → (j : ℕ) × (sel t (pos n) (negsuc (2 ^ 64 - suc n)) +ℤ pos (j * 2 ^ 64) ≡ pos n)
reads n h true e = (0, omega (arith, ints))
reads n h false e = (1, omega (arith, ints))

signed : (n : ℕ) → n < 2 ^ 64 → (j : ℕ) × (cast_signed w64 n +ℤ pos (j * 2 ^ 64) ≡ pos n)
signed n h = reads n h (ltb n (2 ^ 63)) refl

differs : (z : ℤ) → (k : ℤ) × (z ≡ int_wrap w64 z +ℤ k *ℤ pos (2 ^ 64))
unfolding int_wrap
differs (pos a) =
    let n = a % 2 ^ 64 in
    let low : n < 2 ^ 64 = omega arith in
    let s = signed n low in
    (pos (a / 2 ^ 64 + s.0), let e : cast_signed w64 n +ℤ pos (s.0 * 2 ^ 64) ≡ pos n = s.1 in omega (arith, ints))
differs (negsuc a) =
    let n = 2 ^ 64 - 1 - a % 2 ^ 64 in
    let low : n < 2 ^ 64 = omega arith in
    let s = signed n low in
    (pos s.0 +ℤ negsuc (a / 2 ^ 64), let e : cast_signed w64 n +ℤ pos (s.0 * 2 ^ 64) ≡ pos n = s.1 in omega (arith, ints))

word_is : (z : ℤ) → IsWordOf z (word_of z)
word_is z = let fits = SFits-int_wrap w64 z in record { low = omega (arith, ints); high = omega (arith, ints); differs = differs z }

same_word : (z w v : ℤ) → IsWordOf z w → IsWordOf z v → w ≡ v
same_word z w v h k =
    let a = h.differs.0 in
    let b = k.differs.0 in
    let one : z ≡ w +ℤ a *ℤ pos (2 ^ 64) = h.differs.1 in
    let two : z ≡ v +ℤ b *ℤ pos (2 ^ 64) = k.differs.1 in
    omega (arith, ints)

pub one_word : (z : ℤ) → HasOneWord z
one_word z = (word_is z, λ w h. same_word z w (word_of z) h (word_is z))

some_size : (b : ℤ) → b ≢ pos 0 → 0 < unsigned_abs b
some_size (pos zero) h = absurd (h refl)
some_size (pos (suc n)) h = omega arith
some_size (negsuc n) h = omega arith

rem_not_below : (a b : ℤ) → pos 0 ≤ℤ a → pos 0 ≤ℤ int_rem a b
rem_not_below (pos a) b h = omega (arith, ints)
rem_not_below (negsuc a) b h = absurd (h.le)

rem_not_above : (a b : ℤ) → a ≤ℤ pos 0 → int_rem a b ≤ℤ pos 0
rem_not_above (pos a) b h = omega (arith, ints, mod-le a (unsigned_abs b))
rem_not_above (negsuc a) b h = omega (arith, ints)

division : (a b : ℤ) → b ≢ pos 0 → IsDivision a b (int_div a b) (int_rem a b)
division a b h = record {
  whole = sym (ap (λ x. x +ℤ int_rem a b) (*ℤ_comm b (int_div a b)) ∙ quot-rem a b);
  smaller = rem_below a b (some_size b h);
  not_below = rem_not_below a b;
  not_above = rem_not_above a b;
}

whole_quotient : (a b : ℤ) → b ≢ pos 0 → quotient a b ≡ Some (word_of (int_div a b))
whole_quotient a (pos zero) h = absurd (h refl)
whole_quotient a (pos (suc n)) h = refl
whole_quotient a (negsuc n) h = refl

whole_remainder : (a b : ℤ) → b ≢ pos 0 → remainder a b ≡ Some (int_rem a b)
whole_remainder a (pos zero) h = absurd (h refl)
whole_remainder a (pos (suc n)) h = refl
whole_remainder a (negsuc n) h = refl

divides : (a b : ℤ) → b ≢ pos 0 → Divides a b
divides a b h = (int_div a b, int_rem a b, division a b h, whole_quotient a b h, whole_remainder a b h)

pub divides_exactly : (a : ℤ) → DividesExactly a
divides_exactly a = (divides a, refl, refl)

-- a quotient that is a word is exact
quotient_fits : (a b : ℤ) → unsigned_abs a ≤ 2 ^ 63 → (pos 0 ≤ℤ a → unsigned_abs a < 2 ^ 63) → b ≢ pos 0 → ¬ (IsOutsideWords a b) → FitsSigned w64 (int_div a b)
quotient_fits (pos a) b low above some inside =
    let here : pos 0 ≤ℤ pos a = omega (arith, ints) in let high : a < 2 ^ 63 = above here in
    fits_signed_from_abs w64 (int_div (pos a) b) (omega (arith, abs_quotient (pos a) b))
quotient_fits (negsuc a) (pos b) low above some inside = let small = div-le_self (suc a) b in omega (arith, ints)
quotient_fits (negsuc a) (negsuc zero) low above some inside =
    let whole : suc a / 1 ≡ suc a = omega arith in
    let apart : ¬ (suc a ≡ 2 ^ 63) = λ e. inside (let same : a ≡ 2 ^ 63 - 1 = omega arith in ap negsuc same, refl) in
    fits_signed_from_abs w64 (pos (suc a / 1)) (omega arith)
quotient_fits (negsuc a) (negsuc (suc b)) low above some inside =
    let half = div-mul-le_self (suc a) (suc (suc b)) in
    let more : (suc a / suc (suc b)) * 2 ≤ (suc a / suc (suc b)) * suc (suc b) = mul-le-mul_left (suc a / suc (suc b)) (omega arith) in
    fits_signed_from_abs w64 (pos (suc a / suc (suc b))) (omega arith)

word_size : (a : ℤ) → IsWordOf a a → (unsigned_abs a ≤ 2 ^ 63) × (pos 0 ≤ℤ a → unsigned_abs a < 2 ^ 63)
word_size (pos a) h = let high = h.high in let low : a < 2 ^ 63 = omega (arith, ints) in (omega arith, λ _. low)
word_size (negsuc a) h = let low = h.low in (omega (arith, ints), λ z. absurd (z.le))

pub divides_within : (a b : ℤ) → DividesWithin a b
divides_within a b word some inside =
    let size = word_size a word in
    let fits = quotient_fits a b size.0 size.1 some inside in
    (int_div a b, int_rem a b, division a b some, whole_quotient a b some ∙ ap Some (int_wrap_fits w64 (int_div a b) fits), whole_remainder a b some)
