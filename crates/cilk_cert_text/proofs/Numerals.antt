-- Which digits are the decimal spelling of a number.
use Rattle.std.proofs.Common.{◌≡◌, ℕ, zero, suc, ◌+◌, ◌-◌, ◌*◌, ◌^◌, ◌<◌, ◌≤◌, Bool, true, false, cond, ◌&&◌, List, [], ◌∷◌, length, get_or, drop, refl, sym, ap, ◌∙◌, eqb, ltb, arith, rules, drop-cons, ℤ, pos, negsuc, neg_ℤ, ◌-ℤ◌, w64, to_z, of_z, Some, None}
use Rattle.std.specs.Fmt.{decimal, signed_decimal}
use Rattle.std.specs.Char.{is_ascii_digit}
use Rattle.std.specs.Str.{all_ascii_digits, bytes_eq}
use Rattle.std.specs.Str.Parse.{digits_value}
use Rattle.std.proofs.lemmas.Str.Parse.{IsNumeralModel, numerals_by_fold}
use Rattle.std.proofs.lemmas.Fmt.{digits_decimal, digits_value-decimal, decimal-digits_value, decimal_nonempty, first_decimal, decimal_digit, decimal_is_IsNumeral, decimal_injective}
use Rattle.std.proofs.lemmas.Slice.Eq.{bytes_eq-Decides}
use Rattle.std.proofs.lemmas.Bool.{lt-ltb, ltb-true, eqb-true}
use Rattle.std.proofs.lemmas.List.{drop_all}
use Rattle.std.proofs.lemmas.Int.{ints}
use lib.Signed.{mag}
use Rattle.cilk_cert_text.specs.Words.{number_of, signed_value, value_of}

-- the value of digits after those of n
abbrev pub read_on : ℕ → List ℕ → ℕ
read_on n [] = n
read_on n (c ∷ cs) = read_on (10 * n + (c - 48)) cs

pub own : IsNumeralModel (λ ds. all_ascii_digits ds ≡ true) (read_on 0)
own = numerals_by_fold _ (search rules) read_on (search rules)

pub read_on_grows : (n : ℕ) (ds : List ℕ) → n ≤ read_on n ds
read_on_grows n [] = omega arith
read_on_grows n (d ∷ ds) = omega (arith, read_on_grows (10 * n + (d - 48)) ds)

digits_of : (n : ℕ) (ds : List ℕ) → n < 2 ^ 64 → ds ≡ decimal n → all_ascii_digits ds ≡ true
digits_of n ds h e = ap all_ascii_digits e ∙ digits_decimal own n h

value_is : (n : ℕ) (ds : List ℕ) → n < 2 ^ 64 → ds ≡ decimal n → read_on 0 ds ≡ n
value_is n ds h e = ap (read_on 0) e ∙ digits_value-decimal own n h

-- ---- words that spell no number

pub not_empty : (n : ℕ) (ds : List ℕ) → n ≤ 2 ^ 63 → length ds ≡ 0 → ds ≡ decimal n → ⊥
not_empty n ds h len e = absurd (omega (arith, decimal_nonempty n (omega arith), ap length e))

decimal_zero : (n : ℕ) → n ≡ 0 → decimal n ≡ 48 ∷ []
decimal_zero n z = ap decimal z ∙ decimal_digit 0 (omega arith)

pub leading_zero : (n : ℕ) (ds : List ℕ) → n ≤ 2 ^ 63 → get_or ds 0 0 ≡ 48 → (length ds ≡ 1 → ⊥) → ds ≡ decimal n → ⊥
leading_zero zero ds h first long e = long (ap length (e ∙ decimal_zero 0 refl))
leading_zero (suc n) ds h first long e =
    absurd (omega (arith, first_decimal (suc n) (omega arith) (omega arith), ap (λ (l : List ℕ). get_or l 0 0) e))

one_digit : (ds : List ℕ) → get_or ds 0 0 ≡ 48 → length ds ≡ 1 → ds ≡ 48 ∷ []
one_digit [] first len = absurd (omega (arith, len))
one_digit (d ∷ []) first len = ap (λ (x : ℕ). x ∷ []) first
one_digit (d ∷ e ∷ ds) first len = absurd (omega (arith, len))

pub spells_zero : (ds : List ℕ) → get_or ds 0 0 ≡ 48 → length ds ≡ 1 → ds ≡ decimal 0
spells_zero ds first len = one_digit ds first len ∙ sym (decimal_zero 0 refl)

false_and : (a b : Bool) → a ≡ false → (a && b) ≡ false
false_and true b h = absurd cc
false_and false b h = refl

true_and : (a b : Bool) → a ≡ true → b ≡ true → (a && b) ≡ true
true_and true b h k = k
true_and false b h k = absurd cc

-- the byte at i isn't a digit
pub no_digit : (n i : ℕ) (ds : List ℕ) → n ≤ 2 ^ 63 → i < length ds → is_ascii_digit (get_or ds i 0) ≡ false → all_ascii_digits (drop i ds) ≡ all_ascii_digits ds → ds ≡ decimal n → ⊥
no_digit n i ds h lt bad same e =
    let here : all_ascii_digits (drop i ds) ≡ false = rw (drop-cons ds i 0 lt) (false_and (is_ascii_digit (get_or ds i 0)) (all_ascii_digits (drop (suc i) ds)) bad) in
    let whole = digits_of n ds (omega arith) e in
    absurd cc

-- one more digit makes the number too large
pub over : (n i value : ℕ) (ds : List ℕ) → n ≤ 2 ^ 63 → i < length ds → 922337203685477580 < value → read_on value (drop i ds) ≡ read_on 0 ds → ds ≡ decimal n → ⊥
over n i value ds h lt large same e =
    let here : read_on value (drop i ds) ≡ read_on (10 * value + (get_or ds i 0 - 48)) (drop (suc i) ds) = rw (drop-cons ds i 0 lt) refl in
    absurd (omega (arith, here, read_on_grows (10 * value + (get_or ds i 0 - 48)) (drop (suc i) ds), value_is n ds (omega arith) e))

at_end : (i value : ℕ) (ds : List ℕ) → length ds ≤ i → read_on value (drop i ds) ≡ read_on 0 ds → read_on 0 ds ≡ value
at_end i value ds le same = sym same ∙ rw (drop_all i ds le) refl

pub too_large : (n i value most : ℕ) (ds : List ℕ) → n ≤ most → most ≤ 2 ^ 63 → length ds ≤ i → most < value → read_on value (drop i ds) ≡ read_on 0 ds → ds ≡ decimal n → ⊥
too_large n i value most ds h k le large same e = absurd (omega (arith, at_end i value ds le same, value_is n ds (omega arith) e))

-- digits whose first isn't 0
pub spells : (i value : ℕ) (ds : List ℕ) → value ≤ 2 ^ 63 → length ds ≤ i → (length ds ≡ 0 → ⊥) → (get_or ds 0 0 ≡ 48 → ⊥) → all_ascii_digits (drop i ds) ≡ all_ascii_digits ds → read_on value (drop i ds) ≡ read_on 0 ds → ds ≡ decimal value
spells i value ds h le long first digits same =
    let is : read_on 0 ds ≡ value = at_end i value ds le same in
    let all : all_ascii_digits ds ≡ true = sym digits ∙ rw (drop_all i ds le) refl in
    let spelled = decimal-digits_value own ds all (omega arith) (λ z. absurd (first z)) (omega (arith, is)) in
    sym spelled ∙ ap decimal is

-- ---- a word is a number

same_bytes : (xs ys : List ℕ) → xs ≡ ys → bytes_eq xs ys ≡ true
same_bytes xs ys e = (bytes_eq-Decides xs ys).1 e

chosen : {A : Type 0} (b : Bool) (x y : A) → b ≡ true → cond b x y ≡ x
chosen true x y h = refl
chosen false x y h = absurd cc

chosen_none : {A : Type 0} (b : Bool) (x y : A) → (b ≡ true → ⊥) → cond b x y ≡ y
chosen_none true x y h = absurd (h refl)
chosen_none false x y h = refl

and_left : (a b : Bool) → (a && b) ≡ true → a ≡ true
and_left true b h = refl
and_left false b h = absurd cc

and_right : (a b : Bool) → (a && b) ≡ true → b ≡ true
and_right true b h = h
and_right false b h = absurd cc

pub number_found : (n : ℕ) (w : List ℕ) → n < 2 ^ 32 → w ≡ decimal n → number_of w ≡ Some n
unfolding number_of
number_found n w h e =
    let v : digits_value 10 w ≡ n = ap (digits_value 10) e ∙ (decimal_is_IsNumeral n (omega arith)).1 in
    rw v (chosen _ (Some n) None (true_and _ _ (same_bytes w (decimal n) e) (lt-ltb n (2 ^ 32) h)))

pub number_none : (w : List ℕ) → ((n : ℕ) → n < 2 ^ 32 → w ≡ decimal n → ⊥) → number_of w ≡ None
unfolding number_of
number_none w none =
    chosen_none _ (Some (digits_value 10 w)) None (λ t.
    none (digits_value 10 w) (ltb-true (digits_value 10 w) (2 ^ 32) (and_right (bytes_eq w (decimal (digits_value 10 w))) _ t)) ((bytes_eq-Decides w (decimal (digits_value 10 w))).0 (and_left _ (ltb (digits_value 10 w) (2 ^ 32)) t)))

-- a word that is read as a number is its spelling
pub number_spelled : (n : ℕ) (w : List ℕ) → number_of w ≡ Some n → (n < 2 ^ 32) × (w ≡ decimal n)
unfolding number_of
number_spelled n w e = picked (bytes_eq w (decimal (digits_value 10 w))) (ltb (digits_value 10 w) (2 ^ 32)) refl refl e where
  picked : (a b : Bool) → bytes_eq w (decimal (digits_value 10 w)) ≡ a → ltb (digits_value 10 w) (2 ^ 32) ≡ b → cond (a && b) (Some (digits_value 10 w)) None ≡ Some n → (n < 2 ^ 32) × (w ≡ decimal n)
  picked true true p q r =
      let is : digits_value 10 w ≡ n = cc in
      (omega (arith, is, ltb-true (digits_value 10 w) (2 ^ 32) q), (bytes_eq-Decides w (decimal (digits_value 10 w))).0 p ∙ ap decimal is)
  picked true false p q r = absurd cc
  picked false b p q r = absurd cc

digit_no_minus : (b : ℕ) (t : Bool) (bs : List ℕ) → (is_ascii_digit b && t) ≡ true → signed_value (b ∷ bs) ≡ pos (digits_value 10 (b ∷ bs))
digit_no_minus b t bs h = grind (arith, and_left)

signed_value_digits : (ds : List ℕ) → all_ascii_digits ds ≡ true → signed_value ds ≡ pos (digits_value 10 ds)
signed_value_digits [] h = refl
signed_value_digits (b ∷ bs) h = digit_no_minus b (all_ascii_digits bs) bs h

signed_value_spelled : (z : ℤ) → mag z < 2 ^ 63 → signed_value (signed_decimal z) ≡ z
signed_value_spelled (pos n) h =
    signed_value_digits (decimal n) (digits_decimal own n (omega arith)) ∙ ap pos (decimal_is_IsNumeral n (omega arith)).1
signed_value_spelled (negsuc n) h = ap (λ (k : ℕ). neg_ℤ (pos k)) (decimal_is_IsNumeral (suc n) (omega arith)).1

pub value_found : (z : ℤ) (w : List ℕ) → mag z < 2 ^ 63 → w ≡ signed_decimal z → value_of w ≡ Some z
unfolding value_of
value_found z w h e =
    let v : signed_value w ≡ z = ap signed_value e ∙ signed_value_spelled z h in
    rw v (chosen _ (Some z) None (true_and _ _ (same_bytes w (signed_decimal z) e) (lt-ltb (mag z) (2 ^ 63) h)))

pub value_none : (w : List ℕ) → ((z : ℤ) → mag z < 2 ^ 63 → w ≡ signed_decimal z → ⊥) → value_of w ≡ None
unfolding value_of
value_none w none =
    chosen_none _ (Some (signed_value w)) None (λ t.
    none (signed_value w) (ltb-true (mag (signed_value w)) (2 ^ 63) (and_right (bytes_eq w (signed_decimal (signed_value w))) _ t)) ((bytes_eq-Decides w (signed_decimal (signed_value w))).0 (and_left _ (ltb (mag (signed_value w)) (2 ^ 63)) t)))

pub value_spelled : (z : ℤ) (w : List ℕ) → value_of w ≡ Some z → (mag z < 2 ^ 63) × (w ≡ signed_decimal z)
unfolding value_of
value_spelled z w e = picked (bytes_eq w (signed_decimal (signed_value w))) (ltb (mag (signed_value w)) (2 ^ 63)) refl refl e where
  picked : (a b : Bool) → bytes_eq w (signed_decimal (signed_value w)) ≡ a → ltb (mag (signed_value w)) (2 ^ 63) ≡ b → cond (a && b) (Some (signed_value w)) None ≡ Some z → (mag z < 2 ^ 63) × (w ≡ signed_decimal z)
  picked true true p q r =
      let is : signed_value w ≡ z = cc in
      (omega (arith, ap mag is, ltb-true (mag (signed_value w)) (2 ^ 63) q), (bytes_eq-Decides w (signed_decimal (signed_value w))).0 p ∙ ap signed_decimal is)
  picked true false p q r = absurd cc
  picked false b p q r = absurd cc

no_minus : (l : List ℕ) → all_ascii_digits l ≡ true → get_or l 0 0 ≡ 45 → ⊥
no_minus [] d k = absurd (omega (arith, k))
no_minus (b ∷ bs) d k = no_minus_byte b (and_left (is_ascii_digit b) (all_ascii_digits bs) d) k where
  no_minus_byte : (b : ℕ) → is_ascii_digit b ≡ true → b ≡ 45 → ⊥
  no_minus_byte b d k = let e : is_ascii_digit 45 ≡ true = sym (ap is_ascii_digit k) ∙ d in cc

first_is_no_minus : (n : ℕ) (w : List ℕ) → n < 2 ^ 64 → w ≡ decimal n → get_or w 0 0 ≡ 45 → ⊥
first_is_no_minus n w h e k = no_minus (decimal n) (digits_decimal own n h) (sym (ap (λ (l : List ℕ). get_or l 0 0) e) ∙ k)

-- digits after a minus
minus_each : (ds : List ℕ) → ((n : ℕ) → 0 < n → n ≤ 2 ^ 63 → ds ≡ decimal n → ⊥) → (z : ℤ) → mag z < 2 ^ 63 → 45 ∷ ds ≡ signed_decimal z → ⊥
minus_each ds none (pos n) h e = first_is_no_minus n (45 ∷ ds) (omega arith) e refl
minus_each ds none (negsuc n) h e = none (suc n) (omega arith) (omega arith) cc

pub minus_none : (ds : List ℕ) → ((n : ℕ) → n ≤ 2 ^ 63 → ds ≡ decimal n → ⊥) → value_of (45 ∷ ds) ≡ None
minus_none ds none = value_none (45 ∷ ds) (minus_each ds (λ n positive h e. none n h e))

pub minus_zero : (n : ℕ) (ds : List ℕ) → n ≡ 0 → ds ≡ decimal n → value_of (45 ∷ ds) ≡ None
minus_zero n ds z e =
    value_none (45 ∷ ds) (minus_each ds (λ m positive h p. absurd (omega (arith, decimal_injective m n (omega arith) (omega arith) (sym p ∙ e)))))

minus_is : (k : ℕ) → k < 2 ^ 63 → to_z w64 (of_z w64 (negsuc 0 -ℤ to_z w64 k)) ≡ negsuc k
minus_is k h = omega (arith, ints)

pub minus_found : (n : ℕ) (ds : List ℕ) → (n ≡ 0 → ⊥) → n ≤ 2 ^ 63 → ds ≡ decimal n → value_of (45 ∷ ds) ≡ Some (to_z w64 (of_z w64 (negsuc 0 -ℤ to_z w64 (n - 1))))
minus_found zero ds nonzero h e = absurd (nonzero refl)
minus_found (suc n) ds nonzero h e =
    let k : suc n - 1 ≡ n = omega arith in
    value_found (negsuc n) (45 ∷ ds) (omega arith) (ap (λ (l : List ℕ). 45 ∷ l) e) ∙ rw k (ap Some (sym (minus_is n (omega arith))))

-- a word that doesn't begin with a minus
plain_each : (w : List ℕ) → (get_or w 0 0 ≡ 45 → ⊥) → ((n : ℕ) → n ≤ 9223372036854775807 → w ≡ decimal n → ⊥) → (z : ℤ) → mag z < 2 ^ 63 → w ≡ signed_decimal z → ⊥
plain_each w plain none (pos n) h e = none n (omega arith) e
plain_each w plain none (negsuc n) h e = plain (ap (λ (l : List ℕ). get_or l 0 0) e)

pub plain_none : (w : List ℕ) → (get_or w 0 0 ≡ 45 → ⊥) → ((n : ℕ) → n ≤ 9223372036854775807 → w ≡ decimal n → ⊥) → value_of w ≡ None
plain_none w plain none = value_none w (plain_each w plain none)

to_z_small : (n : ℕ) → n < 2 ^ 63 → to_z w64 n ≡ pos n
to_z_small n h = omega (arith, ints)

pub plain_found : (n : ℕ) (w : List ℕ) → n ≤ 9223372036854775807 → w ≡ decimal n → value_of w ≡ Some (to_z w64 n)
plain_found n w h e = rw (to_z_small n (omega arith)) (value_found (pos n) w (omega arith) e)

pub not_nil : (ds : List ℕ) → false ≡ eqb (length ds) 0 → length ds ≡ 0 → ⊥
not_nil [] e h = absurd cc
not_nil (d ∷ ds) e h = absurd (omega (arith, h))

pub empty_plain : (ds : List ℕ) → true ≡ eqb (length ds) 0 → get_or ds 0 0 ≡ 45 → ⊥
empty_plain [] e h = absurd (omega (arith, h))
empty_plain (d ∷ ds) e h = absurd (omega (arith, eqb-true (length (d ∷ ds)) 0 (sym e)))
