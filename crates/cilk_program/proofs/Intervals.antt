-- The number of turns between two bounds.
use Rattle.std.proofs.Common.{◌≡◌, ℕ, zero, suc, ◌+◌, ◌-◌, ◌/◌, ◌<◌, ◌≤◌, ◌+ℤ◌, int_div, int_eq, ℤ, pos, negsuc, ◌-ℤ◌, ◌<ℤ◌, ◌≤ℤ◌, int_lt, true, false, refl, sym, ap, ◌∙◌, arith, true≢false}
use Rattle.std.proofs.lemmas.Int.{ints}
use Rattle.std.proofs.lemmas.Bool.Decides.{Decides-int_eq}
use Rattle.cilk_program.specs.Behaviour.{middle}
use Rattle.cilk_program.specs.Elision.{turns_between}

abbrev counted : ℤ → ℕ
counted (pos n) = n
counted (negsuc n) = 0

counted_none : (c : ℤ) → c ≤ℤ pos 0 → counted c ≡ 0
counted_none (pos n) h = omega (arith, ints)
counted_none (negsuc n) h = refl

pub turns_none : (low high : ℤ) → int_lt low high ≡ false → turns_between low high ≡ 0
turns_none low high h =
    let at_most : high ≤ℤ low = grind (arith, ints) in
    counted_none (high -ℤ low) (omega (arith, ints))

pub below_from : (low high : ℤ) → int_lt low high ≡ true → low <ℤ high
below_from low high h = grind (arith, ints)

pub turns_one : (low high : ℤ) → int_eq (high -ℤ low) (pos 1) ≡ true → turns_between low high ≡ 1
turns_one low high h =
    let e : high -ℤ low ≡ pos 1 = (Decides-int_eq (high -ℤ low) (pos 1)).0 h in
    ap counted e

counted_some : (c : ℤ) → pos 0 <ℤ c → 1 ≤ counted c
counted_some (pos n) h = omega (arith, ints)
counted_some (negsuc n) h = absurd (omega (arith, ints))

pub turns_some : (low high : ℤ) → low <ℤ high → 1 ≤ turns_between low high
turns_some low high h = counted_some (high -ℤ low) (omega (arith, ints))

-- the bounds of the two halves of several turns
pub record Halves (low high : ℤ) : Type 0 where
  pub below : low <ℤ middle low high
  pub above : middle low high <ℤ high
  pub sum : turns_between low (middle low high) + turns_between (middle low high) high ≡ turns_between low high
  pub from : low +ℤ pos (turns_between low (middle low high)) ≡ middle low high

by_count : (low high : ℤ) (n : ℕ) → high -ℤ low ≡ pos n → 2 ≤ n → Halves low high
by_count low high n e h =
    let q : ℕ = n / 2 in
    let q1 : 1 ≤ q = omega arith in
    let q2 : q < n = omega arith in
    let m : middle low high ≡ low +ℤ pos q = ap (λ c. low +ℤ int_div c (pos 2)) e in
    let first : middle low high -ℤ low ≡ pos q = omega (arith, ints) in
    let second : high -ℤ middle low high ≡ pos (n - q) = omega (arith, ints) in
    let count : turns_between low (middle low high) ≡ q = ap counted first in
    let count' : turns_between (middle low high) high ≡ n - q = ap counted second in
    let all : turns_between low high ≡ n = ap counted e in
    record {
      below = omega (arith, ints);
      above = omega (arith, ints);
      sum = omega arith;
      from = ap (λ c. low +ℤ pos c) count ∙ sym m;
    }

several : (low high c : ℤ) → c ≡ high -ℤ low → low <ℤ high → int_eq c (pos 1) ≡ false → Halves low high
several low high (pos zero) e h k = absurd (omega (arith, ints))
several low high (pos (suc zero)) e h k = absurd (true≢false (sym ((Decides-int_eq (pos 1) (pos 1)).1 refl) ∙ k))
several low high (pos (suc (suc n))) e h k = by_count low high (suc (suc n)) (sym e) (omega arith)
several low high (negsuc n) e h k = absurd (omega (arith, ints))

pub halves : (low high : ℤ) → low <ℤ high → int_eq (high -ℤ low) (pos 1) ≡ false → Halves low high
halves low high h k = several low high (high -ℤ low) refl h k
