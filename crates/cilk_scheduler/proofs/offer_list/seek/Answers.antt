use Rattle.std.proofs.Common.{◌≡◌, ◌≢◌, ◌-◌, ◌≤◌, ◌⊎◌, inl, inr, ℕ, true, false, sym, ◌∙◌, subst, arith}
use Rattle.std.proofs.lemmas.Bool.{cases_eq, false≢true}
use Rattle.cilk_scheduler.specs.Slots.{StandsIn}
use Rattle.cilk_scheduler.proofs.Slots.{not_in}
use Rattle.cilk_scheduler.proofs.offer_list.seek.Goals as goal

pub each-preserved : goal.each-preserved
each-preserved c =
    let slots = c.args.slots.now in
    let i = c.each.invariant in
    let long = i.low in
    let here : StandsIn slots (c.each.at - 1) c.args.frame → ⊥ = not_in slots (c.each.at - 1) c.args.frame _ (λ a b. false≢true (sym c.if-is_of-2.false ∙ c.is_of-in-each.ensures.no a b)) in
    record {
      low = omega (arith, long);
      none = λ j low s. by c.each.at j low (λ (less : c.each.at ≤ j). (let none = i.none in none j less s)) (λ (e : j ≡ c.each.at - 1). here (subst (λ n. StandsIn slots n c.args.frame) e s));
    } where
      by : (at j : ℕ) → at - 1 ≤ j → (at ≤ j → ⊥) → (j ≡ at - 1 → ⊥) → ⊥
      by at j low far near = pick (cases_eq j (at - 1)) where
        pick : (j ≡ at - 1) ⊎ (j ≢ at - 1) → ⊥
        pick (inl e) = near e
        pick (inr e) = far (omega (arith, low, e))

pub returns : goal.returns
returns c = λ at s. let i = c.each.invariant in let none = i.none in none at (let h = c.each-test.false in omega (arith, h)) s
