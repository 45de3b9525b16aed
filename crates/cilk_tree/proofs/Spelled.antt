-- A list of events spells at most one shape: `one_shape` for two lists with more events after their
-- shapes, `spells_one` for whole lists.
use Rattle.std.proofs.Common.{◌≡◌, List, [], ◌∷◌, ◌++◌, refl, sym, ap, ap₂, ◌∙◌, subst, append_assoc, append-nil}
use Rattle.cilk_tree.specs.declared.mark.Mark.{Mark}
use Rattle.cilk_tree.specs.declared.mark.Mark.TheVariants.{Begin, End, Sync, Resume, Spawn, Call, Plain}
use Rattle.cilk_types.specs.declared.invocation.Invocation.{Invocation}
use Rattle.cilk_types.specs.declared.invocation.Invocation.TheVariants as invocations
use Rattle.cilk_tree.specs.Shape.{Shape, finish, act, sync, child, start_of, marks, SpellsOneShape}

abbrev first_or : List Mark → Mark
first_or [] = Begin
first_or (m ∷ ms) = m

abbrev rest_of : List Mark → List Mark
rest_of [] = []
rest_of (m ∷ ms) = ms

abbrev IsEnd : Mark → Type 0
IsEnd End = Unit {0}
IsEnd m = ⊥

abbrev IsPlain : Mark → Type 0
IsPlain Plain = Unit {0}
IsPlain m = ⊥

abbrev IsSync : Mark → Type 0
IsSync Sync = Unit {0}
IsSync m = ⊥

abbrev IsCall : Mark → Type 0
IsCall Call = Unit {0}
IsCall m = ⊥

abbrev IsSpawn : Mark → Type 0
IsSpawn Spawn = Unit {0}
IsSpawn m = ⊥

one_kind : (k j : Invocation) → start_of k ≡ start_of j → k ≡ j
one_kind invocations.Call invocations.Call e = refl
one_kind invocations.Spawn invocations.Spawn e = refl
one_kind invocations.Call invocations.Spawn e = absurd (subst IsCall e tt)
one_kind invocations.Spawn invocations.Call e = absurd (subst IsSpawn e tt)

-- a start is no end, plain event or sync
start_no : (P : Mark → Type 0) (k : Invocation) (m : Mark) → start_of k ≡ m → P m → (P Call → ⊥) → (P Spawn → ⊥) → ⊥
start_no P invocations.Call m e h a b = a (subst P (sym e) h)
start_no P invocations.Spawn m e h a b = b (subst P (sym e) h)

-- the marks of a child, and more
child_more : (k : Invocation) (u r : Shape) (xs : List Mark) → marks (child k u r) ++ xs ≡ start_of k ∷ Begin ∷ (marks u ++ Resume ∷ (marks r ++ xs))
child_more k u r xs = ap (λ l. start_of k ∷ Begin ∷ l) (append_assoc (marks u) (Resume ∷ marks r) xs)

pub one_shape : (s t : Shape) (xs ys : List Mark) → marks s ++ xs ≡ marks t ++ ys → (s ≡ t) × (xs ≡ ys)
one_shape finish finish xs ys e = (refl, ap rest_of e)
one_shape finish (act t) xs ys e = absurd (subst IsEnd (ap first_or e) tt)
one_shape finish (sync t) xs ys e = absurd (subst IsEnd (ap first_or e) tt)
one_shape finish (child k u r) xs ys e = absurd (start_no IsEnd k End (sym (ap first_or e)) tt (λ h. h) (λ h. h))
one_shape (act s) finish xs ys e = absurd (subst IsPlain (ap first_or e) tt)
one_shape (act s) (act t) xs ys e = let h = one_shape s t xs ys (ap rest_of e) in (ap act h.0, h.1)
one_shape (act s) (sync t) xs ys e = absurd (subst IsPlain (ap first_or e) tt)
one_shape (act s) (child k u r) xs ys e = absurd (start_no IsPlain k Plain (sym (ap first_or e)) tt (λ h. h) (λ h. h))
one_shape (sync s) finish xs ys e = absurd (subst IsSync (ap first_or e) tt)
one_shape (sync s) (act t) xs ys e = absurd (subst IsSync (ap first_or e) tt)
one_shape (sync s) (sync t) xs ys e = let h = one_shape s t xs ys (ap rest_of e) in (ap sync h.0, h.1)
one_shape (sync s) (child k u r) xs ys e = absurd (start_no IsSync k Sync (sym (ap first_or e)) tt (λ h. h) (λ h. h))
one_shape (child k u r) finish xs ys e = absurd (start_no IsEnd k End (ap first_or e) tt (λ h. h) (λ h. h))
one_shape (child k u r) (act t) xs ys e = absurd (start_no IsPlain k Plain (ap first_or e) tt (λ h. h) (λ h. h))
one_shape (child k u r) (sync t) xs ys e = absurd (start_no IsSync k Sync (ap first_or e) tt (λ h. h) (λ h. h))
one_shape (child k u r) (child j v t) xs ys e =
    let f = sym (child_more k u r xs) ∙ e ∙ child_more j v t ys in
    let inner = one_shape u v (Resume ∷ (marks r ++ xs)) (Resume ∷ (marks t ++ ys)) (ap (λ l. rest_of (rest_of l)) f) in
    let rest = one_shape r t xs ys (ap rest_of inner.1) in
    let kind = one_kind k j (ap first_or e) in
    (ap (λ k. child k u r) kind ∙ ap₂ (λ u r. child j u r) inner.0 rest.0, rest.1)

pub spells_one : SpellsOneShape
spells_one s t es h g =
    (one_shape s t [] [] (append-nil (marks s) ∙ ap rest_of (sym h ∙ g) ∙ sym (append-nil (marks t)))).0
