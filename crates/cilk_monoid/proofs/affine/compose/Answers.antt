-- The product of two maps: converting words to the code's integers and back changes nothing.
use Rattle.std.proofs.Common.{◌≡◌, ◌∙◌, w64, ℤ, ◌+ℤ◌, ◌*ℤ◌, to_z, of_z}
use Rattle.std.proofs.lemmas.Int.{to_z-of_z, int_wrap-add_left}
use Rattle.cilk_types.specs.Word.{word_of, IsWord}
use Rattle.cilk_monoid.specs.Values.{Map}
use Rattle.cilk_monoid.proofs.affine.compose.Goals as goal

-- a word is unchanged by the conversion to the code's integers and back
passed : ℤ → ℤ
passed z = to_z w64 (of_z w64 z)

same : (z : ℤ) → IsWord z → passed z ≡ z
unfolding passed
same z f = to_z-of_z w64 z f

composed_is : (a b c d m n s : ℤ) → IsWord a → IsWord b → IsWord c → IsWord d → IsWord m → IsWord n → IsWord s → m ≡ word_of (passed a *ℤ passed c) → n ≡ word_of (passed c *ℤ passed b) → s ≡ word_of (passed n +ℤ passed d) → Map (passed m) (passed s) ≡ Map (word_of (a *ℤ c)) (word_of (c *ℤ b +ℤ d))
composed_is a b c d m n s fa fb fc fd fm fn fs p q r =
    let factor : passed m ≡ word_of (a *ℤ c) = same m fm ∙ p ∙ (λ i. word_of (same a fa i *ℤ same c fc i)) in
    let inner : passed n ≡ word_of (c *ℤ b) = same n fn ∙ q ∙ (λ i. word_of (same c fc i *ℤ same b fb i)) in
    let offset : passed s ≡ word_of (c *ℤ b +ℤ d) = same s fs ∙ r ∙ (λ i. word_of (inner i +ℤ same d fd i)) ∙ int_wrap-add_left w64 (c *ℤ b) d in
    λ i. Map (factor i) (offset i)

pub returns : goal.returns
unfolding passed
returns c =
    let l = c.args.left in
    let r = c.args.right in
    composed_is l.factor l.offset r.factor r.offset c.mul.result c.mul-2.result c.add.result l.factor_word l.offset_word r.factor_word r.offset_word (record { sfits = c.mul.type_inv }) (record { sfits = c.mul-2.type_inv }) (record { sfits = c.add.type_inv }) c.mul.ensures c.mul-2.ensures c.add.ensures
