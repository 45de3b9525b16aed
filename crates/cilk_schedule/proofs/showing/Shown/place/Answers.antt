use Rattle.std.proofs.Common.{◌≡◌, ◌<◌, ◌+◌, ◌++◌, ◌∷◌, [], ℕ, MatchOption, length, slice_index_or, sym, ap, ◌∙◌, subst, arith}
use Rattle.std.specs.Prelude.{drop, take}
use Rattle.std.proofs.lemmas.List.{take-append-drop, take_all, take_more}
use Rattle.cilk_schedule.proofs.Shows.{linked_up}
use Rattle.cilk_schedule.proofs.showing.Shown.place.Goals as goal

pub each-preserved : goal.each-preserved
each-preserved c = λ name linked.
    let h = c.each.invariant name linked in
    let g = c.in_ok-place.ensures name linked h.0 in
    (g.0, g.1 ∙ ap (λ n. n ++ slice_index_or c.args.path.now c.each.ordinal-index 0 ∷ []) h.1 ∙ sym (take_more c.args.path.now c.each.ordinal-index 0 c.each-test.true))

pub returns-in_err-place : goal.returns-in_err-place
returns-in_err-place c = λ name linked.
    let h = c.each.invariant name linked in
    let g = c.in_err-place.ensures name linked h.0 in
    let i = c.each.ordinal-index + 1 in
    subst (λ o. MatchOption o ((k : ℕ) → k < length c.args.self.now.frames.items → name k ≡ c.args.path.now → ⊥) (λ k. (k < length c.args.self.now.frames.items) × (name k ≡ c.args.path.now))) (sym c.from_residual-in_err-place.ensures)
    (λ k low is.
    let j = linked_up c.args.self.now.frames.items name linked k (take i c.args.path.now) (drop i c.args.path.now) low (is ∙ sym (take-append-drop i c.args.path.now)) in
    g j.0 j.1 (j.2 ∙ take_more c.args.path.now c.each.ordinal-index 0 c.each-test.true ∙ ap (λ n. n ++ slice_index_or c.args.path.now c.each.ordinal-index 0 ∷ []) (sym h.1)))

pub returns : goal.returns
returns c = λ name linked. let h = c.each.invariant name linked in (h.0, h.1 ∙ take_all c.each.ordinal-index c.args.path.now (let q = c.each-test.false in omega (arith, q)))
