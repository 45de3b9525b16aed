-- Digits written two and four at a time.
--
-- `pair_at`: two bytes of the table are the digits of their number. `two_more`: two bytes more.
-- `joined`: the text after two steps.
use Rattle.std.proofs.Common.{◌≡◌, ℕ, ◌+◌, ◌*◌, ◌/◌, ◌%◌, ◌<◌, ◌≤◌, List, [], ◌∷◌, ◌++◌, length, take, set, get_or, sym, ap, ◌∙◌, arith, append_assoc, length-set}
use Rattle.std.proofs.lemmas.List.{take_more_set}
use Rattle.itoa.proofs.Decimal.{PAIRS_at}
use Rattle.cilk_cert_text.specs.declared.digits.TheConstants.{PAIRS}

pub pair_at : (p : ℕ) → p < 100 → (get_or PAIRS (p * 2) 0 ≡ 48 + p / 10) × (get_or PAIRS (p * 2 + 1) 0 ≡ 48 + p % 10)
pair_at p h = PAIRS_at p h

pub two_more : (room : List ℕ) (at x y : ℕ) → at + 2 ≤ length room → take (at + 2) (set (set room at x) (at + 1) y) ≡ take at room ++ x ∷ y ∷ []
two_more room at x y h =
    let next : at + 2 ≡ at + 1 + 1 = omega arith in
    let second = take_more_set (set room at x) (at + 1) y (omega (arith, length-set room at x, h)) in
    let first = take_more_set room at x (omega (arith, h)) in
    ap (λ n. take n (set (set room at x) (at + 1) y)) next ∙ second ∙ ap (λ l. l ++ y ∷ []) first ∙ append_assoc (take at room) (x ∷ []) (y ∷ [])

pub joined : (t t' t'' w x y : List ℕ) → t'' ≡ t' ++ x → t' ≡ t ++ w → y ≡ w ++ x → t'' ≡ t ++ y
joined t t' t'' w x y e f g = e ∙ ap (λ l. l ++ x) f ∙ append_assoc t w x ∙ ap (λ l. t ++ l) (sym g)
