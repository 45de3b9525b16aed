use Rattle.std.proofs.Common.{◌≡◌, ℕ, ◌+◌, ◌-◌, ◌<◌, List, ◌∷◌, length, drop, get_or, ap, ◌∙◌, sym, arith}
use Rattle.std.proofs.lemmas.List.{drop_more, length-drop, drop_all}
use Rattle.cilk_lower.proofs.emitter.references.Goals as goal

-- one more from the end
put_before : {A : Type 0} (xs : List A) (i : ℕ) (d : A) (l l' : List A) → i < length xs → l ≡ drop (length xs - i) xs → l' ≡ get_or xs (length xs - 1 - i) d ∷ l → l' ≡ drop (length xs - (i + 1)) xs
put_before xs i d l l' low e e' =
    let first = get_or xs (length xs - 1 - i) d in
    let at : length xs - (i + 1) ≡ length xs - 1 - i = omega arith in
    let next : length xs - 1 - i + 1 ≡ length xs - i = omega arith in
    let there : length xs - 1 - i < length xs = omega arith in
    e' ∙ ap (λ rest. first ∷ rest) e ∙ sym (ap (λ n. drop n xs) at ∙ drop_more xs (length xs - 1 - i) d there ∙ ap (λ n. first ∷ drop n xs) next)

pub each-init : goal.each-init
each-init c = c.new-references.ensures ∙ sym (drop_all (length c.args.reducers.now - 0) c.args.reducers.now (omega arith))

pub put-requires : goal.put-requires
put-requires c =
    let low : c.each.i < length c.args.reducers.now = omega (arith, c.each-test.true) in
    let count = ap length c.each.invariant ∙ length-drop (length c.args.reducers.now - c.each.i) c.args.reducers.now in
    omega (arith, count, c.requires)

pub each-preserved : goal.each-preserved
each-preserved c =
    let low : c.each.i < length c.args.reducers.now = omega (arith, c.each-test.true) in
    put_before c.args.reducers.now c.each.i _ _ _ low c.each.invariant c.put.ensures
