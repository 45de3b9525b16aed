-- Reading stops at one place: tokens have at most one refusal or token past a limit, and none if
-- they spell a program within the limits.
--
-- `cuts`: two cuts of a list are equal, or one is later. `one_refusal`, `one_past`,
-- `refused_or_past`: two stops are equal. `spelled_not_refused`, `within_not_past`: programs have
-- none. `stops_once`: all of them.
use Rattle.std.proofs.Common.{◌≡◌, Bool, true, false, List, [], ◌∷◌, ◌++◌, refl, sym, ap, ◌∙◌, subst, append_assoc, append-nil}
use Rattle.cilk_syntax.specs.declared.token.Token.{Token}
use Rattle.cilk_syntax.specs.Trees.{Item}
use Rattle.cilk_syntax.specs.Grammar.{SpellsProgram}
use Rattle.cilk_syntax.specs.Limits.{Within, IsFirstPast, excess_items}
use Rattle.cilk_parser.specs.Refused.{Begins, Refused, KeepsLimits, GoesPast, IsRefusal, IsPastLimit}
use Rattle.cilk_parser.specs.Answers.{StopsOnce}
use Rattle.cilk_parser.proofs.Tokens.{heads}

-- two ways to split a list in two
data Cuts (a b c d : List Token) : Type 0 where
  Same : a ≡ c → b ≡ d → Cuts a b c d
  Later : (x : Token) (m : List Token) → c ≡ a ++ x ∷ m → b ≡ x ∷ (m ++ d) → Cuts a b c d
  Sooner : (x : Token) (m : List Token) → a ≡ c ++ x ∷ m → d ≡ x ∷ (m ++ b) → Cuts a b c d

cuts_more : (t u : Token) (a b c d : List Token) → t ≡ u → Cuts a b c d → Cuts (t ∷ a) b (u ∷ c) d
cuts_more t u a b c d p (Same e f) = Same (ap (λ x. x ∷ a) p ∙ ap (λ x. u ∷ x) e) f
cuts_more t u a b c d p (Later x m e f) = Later x m (ap (λ y. y ∷ c) (sym p) ∙ ap (λ y. t ∷ y) e) f
cuts_more t u a b c d p (Sooner x m e f) = Sooner x m (ap (λ y. y ∷ a) p ∙ ap (λ y. u ∷ y) e) f

cuts : (a b c d : List Token) → a ++ b ≡ c ++ d → Cuts a b c d
cuts [] b [] d p = Same refl p
cuts [] b (u ∷ c) d p = Later u c refl p
cuts (t ∷ a) b [] d p = Sooner t a refl (sym p)
cuts (t ∷ a) b (u ∷ c) d p =
    let e = heads t u (a ++ b) (c ++ d) p in cuts_more t u a b c d e.0 (cuts a b c d e.1)

begins_sooner : (used m : List Token) (x : Token) (longer : List Token) → longer ≡ used ++ x ∷ m → Begins longer
    → Begins (used ++ x ∷ [])
begins_sooner used m x longer e h =
    let f : longer ++ h.0 ≡ (used ++ x ∷ []) ++ (m ++ h.0) =
    ap (λ y. y ++ h.0) e ∙ (append_assoc used (x ∷ m) h.0 ∙ sym (append_assoc used (x ∷ []) (m ++ h.0))) in
    (m ++ h.0, h.1, subst (SpellsProgram h.1) f h.2)

-- no program continues refused tokens
refused_at : (used : List Token) (x : Token) (rest more : List Token) → rest ≡ x ∷ more → Refused used rest
    → Begins (used ++ x ∷ []) → ⊥
refused_at used x rest more e r b =
    let at : Refused used (x ∷ more) = subst (Refused used) e r in at b

within_past : (used : List Token) (x : Token) (m : List Token) (past : List Bool) → Within (used ++ x ∷ m) past
    → IsFirstPast used past → ⊥
within_past used x m [] w f = f
within_past [] x m (b ∷ past) w f = let e : false ≡ true = sym w.0 ∙ f in cc
within_past (t ∷ used) x m (b ∷ past) w f = within_past used x m past w.1 f.1

two_past : (used : List Token) (x : Token) (m : List Token) (past : List Bool) → IsFirstPast (used ++ x ∷ m) past
    → IsFirstPast used past → ⊥
two_past used x m [] w f = f
two_past [] x m (b ∷ past) w f = let e : false ≡ true = sym w.0 ∙ f in cc
two_past (t ∷ used) x m (b ∷ past) w f = two_past used x m past w.1 f.1

joined : (used : List Token) (x : Token) (m w longer : List Token) → longer ≡ used ++ x ∷ m
    → longer ++ w ≡ (used ++ x ∷ []) ++ (m ++ w)
joined used x m w longer e =
    ap (λ y. y ++ w) e ∙ (append_assoc used (x ∷ m) w ∙ sym (append_assoc used (x ∷ []) (m ++ w)))

pub one_refusal : (ts used rest used' rest' : List Token) → IsRefusal ts used rest → IsRefusal ts used' rest'
    → (used ≡ used') × (rest ≡ rest')
one_refusal ts used rest used' rest' h k = go (cuts used rest used' rest' (sym h.parts ∙ k.parts))
  where
    go : Cuts used rest used' rest' → (used ≡ used') × (rest ≡ rest')
    go (Same e f) = (e, f)
    go (Later x m e f) =
        absurd (refused_at used x rest (m ++ rest') f h.refused (begins_sooner used m x used' e k.begins))
    go (Sooner x m e f) =
        absurd (refused_at used' x rest' (m ++ rest) f k.refused (begins_sooner used' m x used e h.begins))

-- a later stop at a limit
past_later : (used : List Token) (x : Token) (used' : List Token) (x' : Token) (m : List Token)
    → used' ≡ used ++ x ∷ m → GoesPast used x → Begins (used' ++ x' ∷ []) → GoesPast used' x' → ⊥
past_later used x used' x' m e g b g' =
    let whole : List Token = (used' ++ x' ∷ []) ++ b.0 in
    let f : (used' ++ x' ∷ []) ++ b.0 ≡ (used ++ x ∷ []) ++ (m ++ x' ∷ b.0) =
    append_assoc used' (x' ∷ []) b.0 ∙ joined used x m (x' ∷ b.0) used' e in
    let first : IsFirstPast used (excess_items b.1 ((used' ++ x' ∷ []) ++ b.0)) =
    subst (λ y. IsFirstPast used (excess_items b.1 y)) (sym f)
    (g (m ++ x' ∷ b.0) b.1 (subst (SpellsProgram b.1) f b.2)) in
    two_past used x m (excess_items b.1 ((used' ++ x' ∷ []) ++ b.0))
    (subst (λ y. IsFirstPast y (excess_items b.1 ((used' ++ x' ∷ []) ++ b.0))) e (g' b.0 b.1 b.2)) first

pub one_past : (ts used : List Token) (x : Token) (rest used' : List Token) (x' : Token) (rest' : List Token)
    → IsPastLimit ts used x rest → IsPastLimit ts used' x' rest' → (used ≡ used') × (x ≡ x') × (rest ≡ rest')
one_past ts used x rest used' x' rest' h k = go (cuts used (x ∷ rest) used' (x' ∷ rest') (sym h.parts ∙ k.parts))
  where
    go : Cuts used (x ∷ rest) used' (x' ∷ rest') → (used ≡ used') × (x ≡ x') × (rest ≡ rest')
    go (Same e f) = let g = heads x x' rest rest' f in (e, g.0, g.1)
    go (Later y m e f) =
        let g = heads x y rest (m ++ x' ∷ rest') f in
        absurd (past_later used x used' x' m (e ∙ ap (λ z. used ++ z ∷ m) (sym g.0)) h.past k.begins k.past)
    go (Sooner y m e f) =
        let g = heads x' y rest' (m ++ x ∷ rest) f in
        absurd (past_later used' x' used x m (e ∙ ap (λ z. used' ++ z ∷ m) (sym g.0)) k.past h.begins h.past)

-- a refusal after a token past a limit
refused_later : (used : List Token) (x : Token) (used' m : List Token) → used' ≡ used ++ x ∷ m → GoesPast used x
    → Begins used' → KeepsLimits used' → ⊥
refused_later used x used' m e g b k =
    let f : used' ++ b.0 ≡ (used ++ x ∷ []) ++ (m ++ b.0) = joined used x m b.0 used' e in
    within_past used x m (excess_items b.1 (used' ++ b.0))
    (subst (λ y. Within y (excess_items b.1 (used' ++ b.0))) e (k b.0 b.1 b.2))
    (subst (λ y. IsFirstPast used (excess_items b.1 y)) (sym f) (g (m ++ b.0) b.1 (subst (SpellsProgram b.1) f b.2)))

pub refused_or_past : (ts used rest used' : List Token) (x : Token) (rest' : List Token) → IsRefusal ts used rest
    → IsPastLimit ts used' x rest' → ⊥
refused_or_past ts used rest used' x rest' h k = go (cuts used rest used' (x ∷ rest') (sym h.parts ∙ k.parts))
  where
    go : Cuts used rest used' (x ∷ rest') → ⊥
    go (Same e f) = refused_at used x rest rest' f h.refused (subst (λ y. Begins (y ++ x ∷ [])) (sym e) k.begins)
    go (Later y m e f) =
        refused_at used y rest (m ++ x ∷ rest') f h.refused
        (begins_sooner used (m ++ x ∷ []) y (used' ++ x ∷ []) (ap (λ z. z ++ x ∷ []) e
        ∙ append_assoc used (y ∷ m) (x ∷ [])) k.begins)
    go (Sooner y m e f) =
        let g = heads x y rest' (m ++ rest) f in
        refused_later used' x used m (e ∙ ap (λ z. used' ++ z ∷ m) (sym g.0)) k.past h.begins h.within

pub spelled_not_refused : (ts used rest : List Token) (p : List Item) → SpellsProgram p ts → IsRefusal ts used rest → ⊥
spelled_not_refused ts used [] p s h =
    h.refused p (subst (SpellsProgram p) (h.parts ∙ append-nil used) s)
spelled_not_refused ts used (x ∷ rest) p s h =
    h.refused (rest, p, subst (SpellsProgram p) (h.parts ∙ sym (append_assoc used (x ∷ []) rest)) s)

pub within_not_past : (ts used : List Token) (x : Token) (rest : List Token) (p : List Item) → SpellsProgram p ts
    → Within ts (excess_items p ts) → IsPastLimit ts used x rest → ⊥
within_not_past ts used x rest p s w h =
    let f : ts ≡ (used ++ x ∷ []) ++ rest = h.parts ∙ sym (append_assoc used (x ∷ []) rest) in
    within_past used x rest (excess_items p ts)
    (subst (λ y. Within y (excess_items p ts)) h.parts w)
    (subst (λ y. IsFirstPast used (excess_items p y)) (sym f) (h.past rest p (subst (SpellsProgram p) f s)))

pub stops_once : (ts : List Token) → StopsOnce ts
stops_once ts = record {
  refusals = λ used rest used' rest' h k. one_refusal ts used rest used' rest' h k;
  limits = λ used x rest used' x' rest' h k. one_past ts used x rest used' x' rest' h k;
  apart = λ used rest used' x rest' h k. refused_or_past ts used rest used' x rest' h k;
  spelled = λ used rest p s h. spelled_not_refused ts used rest p s h;
  within = λ used x rest p s w h. within_not_past ts used x rest p s w h;
}
