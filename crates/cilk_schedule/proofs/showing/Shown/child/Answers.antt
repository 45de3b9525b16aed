use Rattle.std.proofs.Common.{◌≡◌, ◌<◌, ◌≤◌, ◌++◌, ◌∷◌, [], ℕ, suc, MatchOption, length, slice_get, sym, ap, ◌∙◌, subst, arith}
use Rattle.std.proofs.lemmas.Bool.{ltb-false}
use Rattle.cilk_scheduler.proofs.Plain.{get_low}
use Rattle.cilk_scheduler.proofs.Placed.{there_at}
use Rattle.cilk_schedule.proofs.showing.Shown.child.Goals as goal

pub returns-in_err-frame : goal.returns-in_err-frame
returns-in_err-frame c = λ name linked low.
    let l = c.in_err-frame.ensures.lookup in
    let far = subst (λ z. length z ≤ c.args.parent) c.deref.ensures.value (ltb-false c.args.parent (length c.deref.result.now) (sym l.0)) in
    absurd (omega (arith, low, far))

pub returns-in_err-before : goal.returns-in_err-before
returns-in_err-before c = λ name linked low.
    let list = c.args.self.now.frames.items in
    let f = c.in_ok-frame.frame.now in
    let g = c.in_ok-frame.ensures.lookup in
    let here = ap (λ z. slice_get z c.args.parent) (sym c.deref.ensures.value) ∙ there_at c.deref.result.now c.args.parent f g.0 g.1 in
    subst (λ o. MatchOption o ((k : ℕ) → k < length list → name k ≡ name c.args.parent ++ c.args.ordinal ∷ [] → ⊥) (λ k. (k < length list) × (name k ≡ name c.args.parent ++ c.args.ordinal ∷ []))) (sym c.from_residual-in_err-before.ensures)
    (λ k less is.
    let r = linked.listed c.args.parent c.args.ordinal k f here less is in
    let first = r.1 in
    c.in_err-before.ensures (omega (arith, first)))

pub returns-in_err-place : goal.returns-in_err-place
returns-in_err-place c = λ name linked low.
    let list = c.args.self.now.frames.items in
    let f = c.in_ok-frame.frame.now in
    let g = c.in_ok-frame.ensures.lookup in
    let here = ap (λ z. slice_get z c.args.parent) (sym c.deref.ensures.value) ∙ there_at c.deref.result.now c.args.parent f g.0 g.1 in
    subst (λ o. MatchOption o ((k : ℕ) → k < length list → name k ≡ name c.args.parent ++ c.args.ordinal ∷ [] → ⊥) (λ k. (k < length list) × (name k ≡ name c.args.parent ++ c.args.ordinal ∷ []))) (sym c.from_residual-in_err-place.ensures)
    (λ k less is.
    let r = linked.listed c.args.parent c.args.ordinal k f here less is in
    let first = r.1 in
    let before = c.in_ok-before.ensures.1 in
    let within = get_low f.children.items r.0 k r.2 in
    let l = c.in_err-place.ensures.lookup in
    let far = subst (λ z. length z ≤ c.in_ok-before.before) c.deref-2.ensures.value (ltb-false c.in_ok-before.before (length c.deref-2.result.now) (sym l.0)) in
    omega (arith, first, before, within, far))

pub returns : goal.returns
returns c = λ name linked low.
    let list = c.args.self.now.frames.items in
    let f = c.in_ok-frame.frame.now in
    let g = c.in_ok-frame.ensures.lookup in
    let here = ap (λ z. slice_get z c.args.parent) (sym c.deref.ensures.value) ∙ there_at c.deref.result.now c.args.parent f g.0 g.1 in
    let q = c.in_ok-before.before in
    let e = c.in_ok-before.ensures in
    let r = c.in_ok-place.ensures.lookup in
    let there = ap (λ z. slice_get z q) (sym c.deref-2.ensures.value) ∙ there_at c.deref-2.result.now q c.in_ok-place.place.now r.0 r.1 in
    let z = linked.lists c.args.parent q c.in_ok-place.place.now f here there in
    let least = e.0 in
    let less = e.1 in
    let one : suc q ≡ c.args.ordinal = omega (arith, least, less) in
    (z.0, z.1 ∙ ap (λ o. name c.args.parent ++ o ∷ []) one)
