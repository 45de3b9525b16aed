-- Turns of a parallel loop are halved.
use Rattle.std.proofs.Common.{◌≡◌, ℕ, zero, suc, ◌/◌, ◌<◌, ℤ, pos, negsuc, ◌+ℤ◌, ◌-ℤ◌, ◌<ℤ◌, int_div, int_eq, false, true≢false, refl, sym, ap, subst, arith}
use Rattle.std.proofs.lemmas.Int.{ints}
use Rattle.cilk_program.specs.Behaviour.{middle}

-- the number of turns between two bounds
pub record Apart (low high : ℤ) : Type 0 where
  pub turns : ℕ
  pub are : high -ℤ low ≡ pos turns
  pub some : 0 < turns

apart_by : (low high z : ℤ) → high -ℤ low ≡ z → low <ℤ high → Apart low high
apart_by low high (pos n) e h = record { turns = n; are = e; some = omega (arith, ints, e, h) }
apart_by low high (negsuc n) e h = absurd (omega (arith, ints, e, h))

pub apart : (low high : ℤ) → low <ℤ high → Apart low high
apart low high h = apart_by low high (high -ℤ low) refl h

not_one : (n : ℕ) → 0 < n → int_eq (pos n) (pos 1) ≡ false → 1 < n
not_one zero some other = absurd (omega (arith, some))
not_one (suc zero) some other = absurd (true≢false other)
not_one (suc (suc n)) some other = omega arith

-- both halves of several turns have turns
pub halves : (low high : ℤ) → low <ℤ high → int_eq (high -ℤ low) (pos 1) ≡ false → (low <ℤ middle low high) × (middle low high <ℤ high)
halves low high h several =
    let d = apart low high h in
    let many = not_one d.turns d.some (subst (λ z. int_eq z (pos 1) ≡ false) d.are several) in
    let half : middle low high ≡ low +ℤ pos (d.turns / 2) = ap (λ z. low +ℤ int_div z (pos 2)) d.are in
    let below : low <ℤ (low +ℤ pos (d.turns / 2)) = omega (arith, ints, many) in
    let above : (low +ℤ pos (d.turns / 2)) <ℤ high = omega (arith, ints, many, d.are) in
    (subst (λ z. low <ℤ z) (sym half) below, subst (λ z. z <ℤ high) (sym half) above)
