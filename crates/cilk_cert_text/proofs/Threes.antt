-- Digits written three at a time.
--
-- `three_at`, `lead_at`: four bytes of a table are what they should be. `three_more`, `lead_more`:
-- the text after they are written. `decimal_three`, `decimal_thousand`: the digits of a number by
-- threes.
use Rattle.std.proofs.Common.{◌≡◌, ℕ, zero, suc, ◌+◌, ◌-◌, ◌*◌, ◌/◌, ◌%◌, ◌^◌, ◌<◌, ◌≤◌, Bool, true, false, T, cond, eqb, nat_lt, inl, inr, ◌&&◌, List, [], ◌∷◌, ◌++◌, length, take, set, get_or, refl, sym, ap, subst, ◌∙◌, arith, append_assoc, eqb→eq, length-set, length-append}
use Rattle.std.proofs.lemmas.Fmt.{decimal_digit, decimal_step}
use Rattle.std.proofs.lemmas.List.{length-take-le, take-set, take-take, take_more_set}
use Rattle.std.specs.Fmt.{decimal}
use Rattle.std.proofs.Math.Seq.{take-append-add}
use Rattle.std.proofs.lemmas.Bool.{cases_lt, cond-true, cond-false, lt-ltb, le-ltb}
use Rattle.itoa.proofs.Decimal.{decimal_pair, decimal_two, length_one, length_two}
use lib.Ieee.Fits.{and_l, and_r}
use Rattle.cilk_cert_text.specs.Digits.{pair_digits, three_digits}
use Rattle.cilk_cert_text.specs.declared.digits.TheConstants.{LEADS, THREES}
use Rattle.cilk_cert_text.proofs.Pairs.{two_more}

-- the bytes of a table, four for each number from n on, pass this test of their number
abbrev all_pass : (ℕ → ℕ → ℕ → ℕ → ℕ → Bool) → ℕ → List ℕ → Bool
all_pass f n (x ∷ y ∷ z ∷ w ∷ rest) = f n x y z w && all_pass f (n + 1) rest
all_pass f n [] = true
all_pass f n _ = false

abbrev PassesAt : (ℕ → ℕ → ℕ → ℕ → ℕ → Bool) → ℕ → List ℕ → ℕ → Type 0
PassesAt f n bytes p = T (f n (get_or bytes (p * 4) 0) (get_or bytes (p * 4 + 1) 0) (get_or bytes (p * 4 + 2) 0) (get_or bytes (p * 4 + 3) 0))

tail : (f : ℕ → ℕ → ℕ → ℕ → ℕ → Bool) (x y z w : ℕ) (rest : List ℕ) (n p : ℕ) → PassesAt f (n + 1 + p) rest p → PassesAt f (n + suc p) (x ∷ y ∷ z ∷ w ∷ rest) (suc p)
tail f x y z w rest n p h =
    let bytes : List ℕ = x ∷ y ∷ z ∷ w ∷ rest in
    let m : n + 1 + p ≡ n + suc p = omega arith in
    let i : suc (suc (suc (suc (p * 4)))) ≡ suc p * 4 = omega arith in
    let j : suc (suc (suc (suc (p * 4 + 1)))) ≡ suc p * 4 + 1 = omega arith in
    let k : suc (suc (suc (suc (p * 4 + 2)))) ≡ suc p * 4 + 2 = omega arith in
    let o : suc (suc (suc (suc (p * 4 + 3)))) ≡ suc p * 4 + 3 = omega arith in
    let a : T (f (n + suc p) (get_or rest (p * 4) 0) (get_or rest (p * 4 + 1) 0) (get_or rest (p * 4 + 2) 0) (get_or rest (p * 4 + 3) 0)) =
    subst (λ v. T (f v (get_or rest (p * 4) 0) (get_or rest (p * 4 + 1) 0) (get_or rest (p * 4 + 2) 0) (get_or rest (p * 4 + 3) 0))) m h in
    let b = subst (λ v. T (f (n + suc p) (get_or bytes v 0) (get_or rest (p * 4 + 1) 0) (get_or rest (p * 4 + 2) 0) (get_or rest (p * 4 + 3) 0))) i a in
    let c = subst (λ v. T (f (n + suc p) (get_or bytes (suc p * 4) 0) (get_or bytes v 0) (get_or rest (p * 4 + 2) 0) (get_or rest (p * 4 + 3) 0))) j b in
    let d = subst (λ v. T (f (n + suc p) (get_or bytes (suc p * 4) 0) (get_or bytes (suc p * 4 + 1) 0) (get_or bytes v 0) (get_or rest (p * 4 + 3) 0))) k c in
    subst (λ v. T (f (n + suc p) (get_or bytes (suc p * 4) 0) (get_or bytes (suc p * 4 + 1) 0) (get_or bytes (suc p * 4 + 2) 0) (get_or bytes v 0))) o d

walk : (f : ℕ → ℕ → ℕ → ℕ → ℕ → Bool) (bytes : List ℕ) (n p : ℕ) → T (all_pass f n bytes) → p * 4 < length bytes → PassesAt f (n + p) bytes p
walk f [] n p t l = absurd (let z : p * 4 < 0 = l in omega (arith, z))
walk f (x ∷ []) n p t l = absurd t
walk f (x ∷ y ∷ []) n p t l = absurd t
walk f (x ∷ y ∷ z ∷ []) n p t l = absurd t
walk f (x ∷ y ∷ z ∷ w ∷ rest) n zero t l = let e : n ≡ n + 0 = omega arith in subst (λ v. PassesAt f v (x ∷ y ∷ z ∷ w ∷ rest) 0) e (and_l _ (all_pass f (n + 1) rest) t)
walk f (x ∷ y ∷ z ∷ w ∷ rest) n (suc p) t l =
    let more : suc p * 4 < suc (suc (suc (suc (length rest)))) = l in
    tail f x y z w rest n p (walk f rest (n + 1) p (and_r _ (all_pass f (n + 1) rest) t) (omega (arith, more)))

at : (f : ℕ → ℕ → ℕ → ℕ → ℕ → Bool) (bytes : List ℕ) (n : ℕ) → T (all_pass f 0 bytes) → length bytes ≡ 4000 → n < 1000 → PassesAt f n bytes n
at f bytes n t e l =
    let z : 0 + n ≡ n = omega arith in
    subst (λ v. PassesAt f v bytes n) z (walk f bytes 0 n t (omega (arith, l, e)))

abbrev are_three : ℕ → ℕ → ℕ → ℕ → ℕ → Bool
are_three n x y z w = eqb x (48 + n / 100) && (eqb y (48 + n % 100 / 10) && eqb z (48 + n % 100 % 10))

abbrev is_lead : ℕ → ℕ → ℕ → ℕ → ℕ → Bool
is_lead n x y z w =
    cond (nat_lt n 10) (eqb w 49 && eqb x (48 + n))
    (cond (nat_lt n 100) (eqb w 50 && (eqb x (48 + n / 10) && eqb y (48 + n % 10))) (eqb w 51 && are_three n x y z w))

pub record Three (n : ℕ) (bytes : List ℕ) : Type 0 where
  pub hundreds : get_or bytes (n * 4) 0 ≡ 48 + n / 100
  pub tens : get_or bytes (n * 4 + 1) 0 ≡ 48 + n % 100 / 10
  pub ones : get_or bytes (n * 4 + 2) 0 ≡ 48 + n % 100 % 10

are_three_at : (n x y z w : ℕ) → T (are_three n x y z w) → (x ≡ 48 + n / 100) × (y ≡ 48 + n % 100 / 10) × (z ≡ 48 + n % 100 % 10)
are_three_at n x y z w t =
    let b = and_r (eqb x (48 + n / 100)) _ t in (
      eqb→eq _ _ (and_l _ (eqb y (48 + n % 100 / 10) && eqb z (48 + n % 100 % 10)) t),
      eqb→eq _ _ (and_l _ (eqb z (48 + n % 100 % 10)) b),
      eqb→eq _ _ (and_r (eqb y (48 + n % 100 / 10)) _ b),
    )

pub three_at : (n : ℕ) → n < 1000 → Three n THREES
three_at n l =
    let d = are_three_at n (get_or THREES (n * 4) 0) (get_or THREES (n * 4 + 1) 0) (get_or THREES (n * 4 + 2) 0) (get_or THREES (n * 4 + 3) 0) (at are_three THREES n tt refl l) in
    record { hundreds = d.0; tens = d.1; ones = d.2 }

pub decimal_three : (n : ℕ) → 100 ≤ n → n < 1000 → decimal n ≡ three_digits n
decimal_three n lo hi = decimal_pair n lo (omega arith) ∙ ap (λ l. l ++ pair_digits (n % 100)) (decimal_digit (n / 100) (omega arith))

pub length_three : (n : ℕ) → 100 ≤ n → n < 1000 → length (decimal n) ≡ 3
length_three n lo hi = ap length (decimal_three n lo hi)

-- the bytes are the digits of a number, and how many they are
pub record IsLead (n x y z w : ℕ) : Type 0 where
  pub count : w ≡ 48 + length (decimal n)
  pub within : length (decimal n) ≤ 3
  pub text : take (length (decimal n)) (x ∷ y ∷ z ∷ []) ≡ decimal n

one_lead : (n x y z w : ℕ) → n < 10 → T (eqb w 49 && eqb x (48 + n)) → IsLead n x y z w
one_lead n x y z w l t =
    let a : w ≡ 49 = eqb→eq _ _ (and_l _ (eqb x (48 + n)) t) in
    let b : x ≡ 48 + n = eqb→eq _ _ (and_r (eqb w 49) _ t) in
    let k = length_one n l in
    record {
      count = omega (arith, a, k);
      within = omega (arith, k);
      text = ap (λ v. take v (x ∷ y ∷ z ∷ [])) k ∙ (ap (λ v. v ∷ []) b ∙ sym (decimal_digit n l));
    }

two_lead : (n x y z w : ℕ) → 10 ≤ n → n < 100 → T (eqb w 50 && (eqb x (48 + n / 10) && eqb y (48 + n % 10))) → IsLead n x y z w
two_lead n x y z w lo hi t =
    let a : w ≡ 50 = eqb→eq _ _ (and_l _ (eqb x (48 + n / 10) && eqb y (48 + n % 10)) t) in
    let d = and_r (eqb w 50) _ t in
    let b : x ≡ 48 + n / 10 = eqb→eq _ _ (and_l _ (eqb y (48 + n % 10)) d) in
    let c : y ≡ 48 + n % 10 = eqb→eq _ _ (and_r (eqb x (48 + n / 10)) _ d) in
    let k = length_two n lo hi in
    record {
      count = omega (arith, a, k);
      within = omega (arith, k);
      text = ap (λ v. take v (x ∷ y ∷ z ∷ [])) k ∙ (ap (λ v. v ∷ y ∷ []) b ∙ (ap (λ v. (48 + n / 10) ∷ v ∷ []) c ∙ sym (decimal_two n lo hi)));
    }

three_lead : (n x y z w : ℕ) → 100 ≤ n → n < 1000 → T (eqb w 51 && are_three n x y z w) → IsLead n x y z w
three_lead n x y z w lo hi t =
    let a : w ≡ 51 = eqb→eq _ _ (and_l _ (are_three n x y z w) t) in
    let d = are_three_at n x y z w (and_r (eqb w 51) _ t) in
    let k = length_three n lo hi in
    record {
      count = omega (arith, a, k);
      within = omega (arith, k);
      text = ap (λ v. take v (x ∷ y ∷ z ∷ [])) k ∙ (ap (λ v. v ∷ y ∷ z ∷ []) d.0 ∙ (ap (λ v. (48 + n / 100) ∷ v ∷ z ∷ []) d.1 ∙ (ap (λ v. (48 + n / 100) ∷ (48 + n % 100 / 10) ∷ v ∷ []) d.2 ∙ sym (decimal_three n lo hi))));
    }

lead_from : (n x y z w : ℕ) → n < 1000 → T (is_lead n x y z w) → IsLead n x y z w
lead_from n x y z w l t =
    let one = eqb w 49 && eqb x (48 + n) in
    let two = eqb w 50 && (eqb x (48 + n / 10) && eqb y (48 + n % 10)) in
    let three = eqb w 51 && are_three n x y z w in
    elim (cases_lt n 10) [
      | inl a ↦ one_lead n x y z w a (subst T (cond-true (nat_lt n 10) one (cond (nat_lt n 100) two three) (lt-ltb n 10 a)) t)
      | inr a ↦ (let u = subst T (cond-false (nat_lt n 10) one (cond (nat_lt n 100) two three) (le-ltb n 10 a)) t in
          elim (cases_lt n 100) [
            | inl b ↦ two_lead n x y z w a b (subst T (cond-true (nat_lt n 100) two three (lt-ltb n 100 b)) u)
            | inr b ↦ three_lead n x y z w b l (subst T (cond-false (nat_lt n 100) two three (le-ltb n 100 b)) u)
          ])
    ]

pub lead_at : (n : ℕ) → n < 1000 → IsLead n (get_or LEADS (n * 4) 0) (get_or LEADS (n * 4 + 1) 0) (get_or LEADS (n * 4 + 2) 0) (get_or LEADS (n * 4 + 3) 0)
lead_at n l = lead_from n _ _ _ _ l (at is_lead LEADS n tt refl l)

pub three_more : (room : List ℕ) (at x y z w : ℕ) → at + 4 ≤ length room
    → take (at + 3) (set (set (set (set room at x) (at + 1) y) (at + 2) z) (at + 3) w) ≡ take at room ++ x ∷ y ∷ z ∷ []
three_more room at x y z w h =
    let pairs = set (set room at x) (at + 1) y in
    let long : length pairs ≡ length room = length-set (set room at x) (at + 1) y ∙ length-set room at x in
    let next : at + 3 ≡ at + 2 + 1 = omega arith in
    take-set (set pairs (at + 2) z) (at + 3) w
    ∙ ap (λ n. take n (set pairs (at + 2) z)) next
    ∙ take_more_set pairs (at + 2) z (omega (arith, long, h))
    ∙ ap (λ l. l ++ z ∷ []) (two_more room at x y (omega (arith, h)))
    ∙ append_assoc (take at room) (x ∷ y ∷ []) (z ∷ [])

pub lead_more : (room : List ℕ) (at x y z w k : ℕ) → at + 4 ≤ length room → k ≤ 3
    → take (at + k) (set (set (set (set room at x) (at + 1) y) (at + 2) z) (at + 3) w) ≡ take at room ++ take k (x ∷ y ∷ z ∷ [])
lead_more room at x y z w k h few =
    let all = set (set (set (set room at x) (at + 1) y) (at + 2) z) (at + 3) w in
    let long : at + k ≡ length (take at room) + k = let n = length-take-le at room (omega (arith, h)) in omega (arith, n) in
    sym (take-take (at + k) (at + 3) all (omega (arith, few)))
    ∙ (ap (λ l. take (at + k) l) (three_more room at x y z w h)
    ∙ (ap (λ n. take n (take at room ++ x ∷ y ∷ z ∷ [])) long ∙ take-append-add (take at room) (x ∷ y ∷ z ∷ []) k))

pub count_at : (at n : ℕ) → n < 1000 → (48 ≤ at + get_or LEADS (n * 4 + 3) 0) × (at + get_or LEADS (n * 4 + 3) 0 - 48 ≡ at + length (decimal n)) × (get_or LEADS (n * 4 + 3) 0 ≤ 51)
count_at at n l = let d = lead_at n l in (omega (arith, d.count), omega (arith, d.count), omega (arith, d.count, d.within))

pub led : (room : List ℕ) (at n : ℕ) → n < 1000 → at + 4 ≤ length room
    → take (at + get_or LEADS (n * 4 + 3) 0 - 48)
    (set (set (set (set room at (get_or LEADS (n * 4) 0)) (at + 1) (get_or LEADS (n * 4 + 1) 0)) (at + 2) (get_or LEADS (n * 4 + 2) 0)) (at + 3) (get_or LEADS (n * 4 + 3) 0))
    ≡ take at room ++ decimal n
led room at n l h =
    let d = lead_at n l in
    let x = get_or LEADS (n * 4) 0 in
    let y = get_or LEADS (n * 4 + 1) 0 in
    let z = get_or LEADS (n * 4 + 2) 0 in
    let w = get_or LEADS (n * 4 + 3) 0 in
    ap (λ k. take k (set (set (set (set room at x) (at + 1) y) (at + 2) z) (at + 3) w)) (count_at at n l).1
    ∙ (lead_more room at x y z w (length (decimal n)) h d.within ∙ ap (λ s. take at room ++ s) d.text)

pub decimal_thousand : (n : ℕ) → 1000 ≤ n → n < 2 ^ 64 → decimal n ≡ decimal (n / 1000) ++ three_digits (n % 1000)
decimal_thousand n lo hi =
    let a : n / 100 / 10 ≡ n / 1000 = omega arith in
    let b : n / 100 % 10 ≡ n % 1000 / 100 = omega arith in
    let c : n % 100 ≡ n % 1000 % 100 = omega arith in
    rw (decimal_pair n (omega arith) hi, decimal_step (n / 100) (omega arith) (omega arith), append_assoc, a, b, c) refl

pub length_thousand : (n : ℕ) → 1000 ≤ n → n < 2 ^ 64 → length (decimal n) ≡ length (decimal (n / 1000)) + 3
length_thousand n lo hi = ap length (decimal_thousand n lo hi) ∙ length-append _ _
