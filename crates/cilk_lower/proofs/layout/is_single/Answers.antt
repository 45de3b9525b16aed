use Rattle.std.proofs.Common.{◌≡◌, ℤ, pos, ◌-ℤ◌, eqb, ap, ◌∙◌, sym, subst, rules, arith, SFits, to_z, of_z, w64}
use Rattle.std.specs.Int.{w128}
use Rattle.std.proofs.lemmas.Int.{ints, to_z-of_z}
use Rattle.std.proofs.cmp.Tests.{signed_test}
use Rattle.cilk_lower.proofs.layout.is_single.Goals as goal

read : (z r : ℤ) → SFits w64 z → SFits w128 r → r ≡ to_z w64 (of_z w64 z) → to_z w128 (of_z w128 r) ≡ z
read z r f g e = to_z-of_z w128 r g ∙ e ∙ to_z-of_z w64 z f

distance : (a b x y : ℤ) → a ≡ x → b ≡ y → a -ℤ b ≡ x -ℤ y
distance a b x y d e = ap (λ x. x -ℤ b) d ∙ ap (λ y. x -ℤ y) e

-- the distance of two words needs one bit more
distance_fits : (x y : ℤ) → SFits w64 x → SFits w64 y → SFits w128 (x -ℤ y)
distance_fits x y f g = search (arith, ints)

pub overflow_sub-result : goal.overflow_sub-result
overflow_sub-result c =
    let high = read c.args.high c.from.result c.ranges.high (record { sfits = c.from.type_inv }) c.from.ensures in
    let low = read c.args.low c.from-2.result c.ranges.low (record { sfits = c.from-2.type_inv }) c.from-2.ensures in
    subst (λ z. SFits w128 z) (sym (distance _ _ c.args.high c.args.low high low)) (distance_fits c.args.high c.args.low c.ranges.high c.ranges.low)

pub returns : goal.returns
returns c =
    let high = read c.args.high c.from.result c.ranges.high (record { sfits = c.from.type_inv }) c.from.ensures in
    let low = read c.args.low c.from-2.result c.ranges.low (record { sfits = c.from-2.type_inv }) c.from-2.ensures in
    ap (λ z. eqb (of_z w128 z) 1) (distance _ _ c.args.high c.args.low high low)
    ∙ signed_test w128 (c.args.high -ℤ c.args.low) (pos 1) (distance_fits c.args.high c.args.low c.ranges.high c.ranges.low) (search rules)
