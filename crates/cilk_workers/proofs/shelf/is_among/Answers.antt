use Rattle.std.proofs.Common.{◌≡◌, ℕ, nat_eq, Bool, ◌||◌, true, false, true≢false, List, [], ◌∷◌, inl, inr, refl, sym, ap, ◌∙◌, subst, eq-eqb, eqb-true}
use Rattle.std.specs.List.{list_any}
use Rattle.cilk_workers.specs.Histories.{Has}
use Rattle.cilk_workers.proofs.shelf.is_among.Goals as goal

abbrev any_is : ℕ → List ℕ → Bool
any_is x ps = list_any (λ (y : ℕ). nat_eq y x) ps

has_first : (b : Bool) (p x : ℕ) (ps : List ℕ) → nat_eq p x ≡ b → (any_is x ps ≡ true → Has ps x) → (b || any_is x ps) ≡ true → Has (p ∷ ps) x
has_first true p x ps is rest any = inl (eqb-true p x is)
has_first false p x ps is rest any = inr (rest any)

has_any : (x : ℕ) (ps : List ℕ) → any_is x ps ≡ true → Has ps x
has_any x [] any = absurd (true≢false (sym any))
has_any x (p ∷ ps) any = has_first (nat_eq p x) p x ps refl (λ there. has_any x ps there) any

or_right : (a b : Bool) → b ≡ true → (a || b) ≡ true
or_right true b is = refl
or_right false b is = is

any_has : (x : ℕ) (ps : List ℕ) → Has ps x → any_is x ps ≡ true
any_has x [] h = absurd h
any_has x (p ∷ ps) (inl same) = ap (λ (b : Bool). b || any_is x ps) (eq-eqb p x same)
any_has x (p ∷ ps) (inr h) = or_right (nat_eq p x) (any_is x ps) (any_has x ps h)

pub returns : goal.returns
returns c =
    let items : c.deref.result.now ≡ c.args.passed.now.items = c.deref.ensures.value in (
      (λ is. subst (λ (ps : List ℕ). Has ps c.args.sync) items (has_any c.args.sync c.deref.result.now (sym c.contains.ensures.value ∙ is))),
      (λ there. c.contains.ensures.value ∙ any_has c.args.sync c.deref.result.now (subst (λ (ps : List ℕ). Has ps c.args.sync) (sym items) there)),
    )
