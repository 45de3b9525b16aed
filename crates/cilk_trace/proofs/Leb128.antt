-- A number is read from its spelling in LEB128: `reads_numbers`.
use Rattle.std.proofs.Common.{◌≡◌, ℕ, suc, ◌+◌, ◌-◌, ◌*◌, ◌/◌, ◌%◌, ◌^◌, ◌<◌, ◌≤◌, inl, inr, Bool, true, false, cond, ◌&&◌, List, [], ◌∷◌, ◌++◌, refl, sym, ap, ◌∙◌, eqb, ltb, arith}
use Rattle.std.proofs.Math.Nat.{add-mul, mod-add-div', mul_assoc}
use Rattle.std.proofs.lemmas.Bool.{cases_lt, lt-ltb, le-ltb, ne_eqb}
use Rattle.cilk_trace.specs.Numbers.{Next, ReadsNumbers, leb128_in, numbers_from}
use Rattle.cilk_trace.proofs.EventReadings.{last_law, more_law}

needed : (n u : ℕ) → (1 < u → 0 < n) → (eqb n 0 && ltb 1 u) ≡ false
needed n u h = elim (cases_lt 1 u) [
  | inl m ↦ (let z : eqb n 0 ≡ false = ne_eqb n 0 (λ e. (let p = h m in absurd (omega (arith, e, p)))) in ap (λ (b : Bool). b && ltb 1 u) z)
  | inr m ↦ (let z : ltb 1 u ≡ false = le-ltb 1 u m in ap (λ (b : Bool). eqb n 0 && b) z ∙ no_more (eqb n 0))
]
  where
    no_more : (b : Bool) → (b && false) ≡ false
    no_more true = refl
    no_more false = refl

-- the value with seven bits more, and the rest of the number
parts : (v u n : ℕ) → v + (128 + n % 128 - 128) * u + n / 128 * (128 * u) ≡ v + n * u
parts v u n =
    let r = n % 128 in
    let q = n / 128 in
    let low : 128 + r - 128 ≡ r = omega arith in
    let high : q * (128 * u) ≡ q * 128 * u = sym (mul_assoc q 128 u) in
    let all : r * u + q * 128 * u ≡ n * u = sym (add-mul r (q * 128) u) ∙ ap (λ (x : ℕ). x * u) (mod-add-div' n 128) in
    ap (λ (x : ℕ). v + x * u + q * (128 * u)) low ∙ (ap (λ (x : ℕ). v + r * u + x) high ∙ omega (arith, all))

-- a number of at most k bytes, after bytes that make the value v, is read again
Again : ℕ → ℕ → Type 0
Again k u = (v n : ℕ) (bs : List ℕ) → (1 < u → 0 < n) → n < 128 ^ k → numbers_from v u (leb128_in k n ++ bs) ≡ Next (v + n * u) (numbers_from 0 1 bs)

short : (v u n : ℕ) (bs : List ℕ) → (1 < u → 0 < n) → n < 128 → numbers_from v u (n ∷ bs) ≡ Next (v + n * u) (numbers_from 0 1 bs)
short v u n bs h few = last_law n v u bs few (needed n u h)

last : (u : ℕ) → Again 1 u
unfolding Again
last u v n bs h few =
    let small : n < 128 = omega (arith, few) in
    ap (λ (b : Bool). numbers_from v u (cond b (n ∷ []) ((128 + n % 128) ∷ []) ++ bs)) (lt-ltb n 128 small) ∙ short v u n bs h small

more : (k u : ℕ) → u ≤ 2097152 → Again k (128 * u) → ((n : ℕ) → n < 128 ^ suc k → n / 128 < 128 ^ k) → Again (suc k) u
unfolding Again
more k u few later less v n bs h below = elim (cases_lt n 128) [
  | inl m ↦ ap (λ (b : Bool). numbers_from v u (cond b (n ∷ []) ((128 + n % 128) ∷ leb128_in k (n / 128)) ++ bs)) (lt-ltb n 128 m) ∙ short v u n bs h m
  | inr m ↦ (let some : 0 < n / 128 = omega (arith, m) in
      ap (λ (b : Bool). numbers_from v u (cond b (n ∷ []) ((128 + n % 128) ∷ leb128_in k (n / 128)) ++ bs)) (le-ltb n 128 m)
      ∙ (more_law (128 + n % 128) v u (leb128_in k (n / 128) ++ bs) (omega arith) few
      ∙ (later (v + (128 + n % 128 - 128) * u) (n / 128) bs (λ w. some) (less n below)
      ∙ ap (λ (x : ℕ). Next x (numbers_from 0 1 bs)) (parts v u n))))
]

pub reads_numbers : ReadsNumbers
unfolding Again
reads_numbers n bs below =
    let five = more 4 1 (omega arith)
    (more 3 128 (omega arith)
    (more 2 16384 (omega arith)
    (more 1 2097152 (omega arith) (last 268435456) (λ n h. omega (arith, h)))
    (λ n h. omega (arith, h)))
    (λ n h. omega (arith, h)))
    (λ n h. omega (arith, h)) in
    five 0 n bs (λ h. absurd (omega (arith, h))) below ∙ ap (λ (x : ℕ). Next x (numbers_from 0 1 bs)) (omega arith)
