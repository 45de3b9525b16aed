-- Two readings of the first tokens agree.
--
-- `heads`: equal lists have equal heads and tails. `same_is`, `same_name`, `same_at`: two readings
-- of a first token agree, and so do the tokens that follow. `apart`, `not_first`, `not_it`: the
-- first token isn't of two kinds.
use Rattle.std.proofs.Common.{◌≡◌, ◌≢◌, ℕ, List, ◌∷◌, sym, ap, ◌∙◌, subst}
use Rattle.cilk_syntax.specs.declared.token.Kind.{Kind}
use Rattle.cilk_syntax.specs.declared.token.Kind.TheVariants as kinds
use Rattle.cilk_syntax.specs.declared.token.Token.{Token}
use Rattle.cilk_syntax.specs.declared.tree.Name.{Name}
use Rattle.cilk_syntax.specs.Grammar.{Is, IsName, IsAt}
use Rattle.cilk_syntax.specs.Stops.{NotFirst}

pub heads : (t u : Token) (r s : List Token) → t ∷ r ≡ u ∷ s → (t ≡ u) × (r ≡ s)
heads t u r s e = (cc, cc)

-- the kinds of the first token are equal, and so are the tokens that follow
pub same_is : {j k : Kind} {ts us r s : List Token} → ts ≡ us → Is j ts r → Is k us s → (j ≡ k) × (r ≡ s)
same_is {j} {k} {ts} {us} {r} {s} p h i =
    let e = heads h.0 i.0 r s (sym h.1 ∙ (p ∙ i.1)) in
    (sym h.2 ∙ (ap (λ t. t.kind) e.0 ∙ i.2), e.1)

pub name_at : Token → Name
name_at t = record { at = t.at; end = t.end }

pub is_named : (name : Name) (t : Token) → name.at ≡ t.at → name.end ≡ t.end → name_at t ≡ name
unfolding name_at
is_named name t a e =
    ap (λ x. record { at = x; end = t.end }) (sym a) ∙ ap (λ x. record { at = name.at; end = x }) (sym e)

pub same_name : {m n : Name} {ts us r s : List Token} → ts ≡ us → IsName m ts r → IsName n us s → (m ≡ n) × (r ≡ s)
same_name {m} {n} {ts} {us} {r} {s} p h i =
    let e = heads h.0 i.0 r s (sym h.1 ∙ (p ∙ i.1)) in
    (sym (is_named m h.0 h.3 h.4) ∙ (ap name_at e.0 ∙ is_named n i.0 i.3 i.4), e.1)

pub same_at : {k : Kind} {m n : ℕ} {ts us r s : List Token} → ts ≡ us → IsAt k m ts r → IsAt k n us s
    → (m ≡ n) × (r ≡ s)
same_at {k} {m} {n} {ts} {us} {r} {s} p h i =
    let e = heads h.0 i.0 r s (sym h.1 ∙ (p ∙ i.1)) in
    (h.3 ∙ (ap (λ t. t.at) e.0 ∙ sym i.3), e.1)

-- a name is a token of its kind
pub is_name : {n : Name} {ts r : List Token} → IsName n ts r → Is kinds.Name ts r
is_name {n} {ts} {r} h = (h.0, h.1, h.2)

pub is_at : {k : Kind} {n : ℕ} {ts r : List Token} → IsAt k n ts r → Is k ts r
is_at {k} {n} {ts} {r} h = (h.0, h.1, h.2)

-- the first token is of this kind
abbrev pub Starts : Kind → List Token → Type 0
Starts kind ts = (r : List Token) × Is kind ts r

-- the first token isn't of two kinds
pub apart : {A : Type 0} {j k : Kind} {ts us r s : List Token} → ts ≡ us → Is j ts r → Is k us s → (j ≡ k → A) → A
apart p h i f = f (same_is p h i).0

pub not_first : {j k : Kind} {ts r : List Token} → Is j ts r → j ≢ k → NotFirst k ts
not_first {j} {k} {ts} {r} h n = subst (NotFirst k) (sym h.1) (λ e. n (sym h.2 ∙ e))

pub not_it : {A : Type 0} {k : Kind} {ts us r : List Token} → ts ≡ us → NotFirst k ts → Is k us r → A
not_it {A} {k} {ts} {us} {r} p n h =
    let at : NotFirst k (h.0 ∷ r) = subst (NotFirst k) (p ∙ h.1) n in absurd (at h.2)
