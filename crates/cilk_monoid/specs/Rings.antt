-- The product of integers is associative and distributes over the sum.
use Rattle.std.specs.Prelude.{◌≡◌, ℤ, pos, ◌+ℤ◌, ◌-ℤ◌, ◌*ℤ◌}
use Rattle.std.proofs.Common.{ap, sym, ◌∙◌, subst, arith}
use Rattle.std.proofs.lemmas.Int.{ints}
use lib.IntN.{suc_ℤ, pred_ℤ, ℤ_ind, +ℤ_one, -ℤ_one, +ℤ_idl, zero-*ℤ, suc_ℤ-+ℤ, pred_ℤ-+ℤ, suc_ℤ-*ℤ, pred_ℤ-*ℤ, -ℤ-+ℤ_cancel, *ℤ_comm}

Distributes : ℤ → ℤ → ℤ → Type 0
Distributes b c a = (a +ℤ b) *ℤ c ≡ a *ℤ c +ℤ b *ℤ c

distributes_zero : (b c : ℤ) → Distributes b c (pos 0)
unfolding Distributes
distributes_zero b c = ap (λ x. x *ℤ c) (+ℤ_idl b) ∙ sym (ap (λ x. x +ℤ b *ℤ c) (zero-*ℤ c) ∙ +ℤ_idl (b *ℤ c))

distributes_suc : (b c a : ℤ) → Distributes b c a → Distributes b c (suc_ℤ a)
unfolding Distributes
distributes_suc b c a h =
    let e : (suc_ℤ a +ℤ b) *ℤ c ≡ (a +ℤ b) *ℤ c +ℤ c = ap (λ x. x *ℤ c) (suc_ℤ-+ℤ a b) ∙ suc_ℤ-*ℤ (a +ℤ b) c in
    let f : (a *ℤ c +ℤ b *ℤ c) +ℤ c ≡ (a *ℤ c +ℤ c) +ℤ b *ℤ c = omega (arith, ints) in
    e ∙ ap (λ x. x +ℤ c) h ∙ f ∙ ap (λ x. x +ℤ b *ℤ c) (sym (suc_ℤ-*ℤ a c))

distributes_pred : (b c a : ℤ) → Distributes b c a → Distributes b c (pred_ℤ a)
unfolding Distributes
distributes_pred b c a h =
    let e : (pred_ℤ a +ℤ b) *ℤ c ≡ (a +ℤ b) *ℤ c -ℤ c = ap (λ x. x *ℤ c) (pred_ℤ-+ℤ a b) ∙ pred_ℤ-*ℤ (a +ℤ b) c in
    let f : (a *ℤ c +ℤ b *ℤ c) -ℤ c ≡ (a *ℤ c -ℤ c) +ℤ b *ℤ c = omega (arith, ints) in
    e ∙ ap (λ x. x -ℤ c) h ∙ f ∙ ap (λ x. x +ℤ b *ℤ c) (sym (pred_ℤ-*ℤ a c))

-- (a + b) * c is a * c + b * c
pub sum-times : (a b c : ℤ) → (a +ℤ b) *ℤ c ≡ a *ℤ c +ℤ b *ℤ c
unfolding Distributes
sum-times a b c = ℤ_ind (Distributes b c) (distributes_zero b c) (λ n h. subst (Distributes b c) (sym (+ℤ_one (pos n))) (distributes_suc b c (pos n) h)) (λ n h. subst (Distributes b c) (sym (-ℤ_one _)) (distributes_pred b c _ h)) a

-- (a - b) * c is a * c - b * c
pub difference-times : (a b c : ℤ) → (a -ℤ b) *ℤ c ≡ a *ℤ c -ℤ b *ℤ c
difference-times a b c =
    let e : (a -ℤ b) *ℤ c +ℤ b *ℤ c ≡ a *ℤ c = sym (sum-times (a -ℤ b) b c) ∙ ap (λ x. x *ℤ c) (-ℤ-+ℤ_cancel a b) in
    omega (arith, ints, e)

Associates : ℤ → ℤ → ℤ → Type 0
Associates b c a = (a *ℤ b) *ℤ c ≡ a *ℤ (b *ℤ c)

associates_zero : (b c : ℤ) → Associates b c (pos 0)
unfolding Associates
associates_zero b c = ap (λ x. x *ℤ c) (zero-*ℤ b) ∙ zero-*ℤ c ∙ sym (zero-*ℤ (b *ℤ c))

associates_suc : (b c a : ℤ) → Associates b c a → Associates b c (suc_ℤ a)
unfolding Associates
associates_suc b c a h = ap (λ x. x *ℤ c) (suc_ℤ-*ℤ a b) ∙ sum-times (a *ℤ b) b c ∙ ap (λ x. x +ℤ b *ℤ c) h ∙ sym (suc_ℤ-*ℤ a (b *ℤ c))

associates_pred : (b c a : ℤ) → Associates b c a → Associates b c (pred_ℤ a)
unfolding Associates
associates_pred b c a h = ap (λ x. x *ℤ c) (pred_ℤ-*ℤ a b) ∙ difference-times (a *ℤ b) b c ∙ ap (λ x. x -ℤ b *ℤ c) h ∙ sym (pred_ℤ-*ℤ a (b *ℤ c))

-- (a * b) * c is a * (b * c)
pub times_assoc : (a b c : ℤ) → (a *ℤ b) *ℤ c ≡ a *ℤ (b *ℤ c)
unfolding Associates
times_assoc a b c = ℤ_ind (Associates b c) (associates_zero b c) (λ n h. subst (Associates b c) (sym (+ℤ_one (pos n))) (associates_suc b c (pos n) h)) (λ n h. subst (Associates b c) (sym (-ℤ_one _)) (associates_pred b c _ h)) a

-- c * (a + b) is c * a + c * b
pub times-sum : (a b c : ℤ) → c *ℤ (a +ℤ b) ≡ c *ℤ a +ℤ c *ℤ b
times-sum a b c = *ℤ_comm c (a +ℤ b) ∙ sum-times a b c ∙ (λ i. *ℤ_comm a c i +ℤ *ℤ_comm b c i)
