-- If reducers are created one after another in a list of events, each is created once, before its
-- sets and values.
--
-- - `used_after`: a set or value comes after its reducer's creation, or that was before the list;
-- - `not_again`, `not_twice`: a creation along the list is of a reducer that has not been created;
-- - `created_before_use`, `have_creations`: the premise of the law of the first view-read race, and
--   that law for serial runs.
use Rattle.std.proofs.Common.{◌≡◌, ◌⊎◌, inl, inr, ℕ, zero, suc, ◌<◌, ◌-◌, ℤ, List, [], ◌∷◌, Some, None, slice_get, refl, sym, ap, ◌∙◌, subst, arith}
use Rattle.cilk_types.specs.declared.event.Event.{Event}
use Rattle.cilk_types.specs.declared.event.Event.TheVariants as events
use Rattle.cilk_types.specs.declared.event.Instance.{Instance}
use Rattle.cilk_program.specs.Syntax.{Source}
use Rattle.cilk_program.specs.Created.{Among, deed_of, IsCreated, made_by, AreCreated}
use Rattle.cilk_program.proofs.Creations.{runs_create}
use Rattle.cilk_tree.specs.Races.{event_at}
use Rattle.cilk_peers.specs.ViewRaces.{UsesReducer, AreCreatedBeforeUse}
use Rattle.cilk_peers.proofs.Creations.{first_is}
use Rattle.cilk_determinacy.specs.Events.{RunsHaveCreations}

-- its creation is before position q, from 0
abbrev IsAhead : Instance → List Event → ℕ → Type 0
IsAhead i es q = (k : ℕ) × (k < q) × (slice_get es k ≡ Some (events.Create i))

use_is_of : (e : Event) (i : Instance) (made : List Instance) → UsesReducer (Some e) i → IsCreated (deed_of e) made → Among i made
use_is_of (events.Set j v) i made u h = subst (λ j. Among j made) u h
use_is_of (events.Value j v) i made u h = subst (λ j. Among j made) u h
use_is_of _ i made u h = absurd u

-- what has been created after an event was so before, or the event creates it
made_after : (e : Event) (i : Instance) (made : List Instance) → Among i (made_by (deed_of e) made) → Among i made ⊎ (e ≡ events.Create i)
made_after (events.Create j) i made (inl same) = inr (ap events.Create same)
made_after (events.Create j) i made (inr h) = inl h
made_after _ i made h = inl h

still_made : (e : Event) (i : Instance) (made : List Instance) → Among i made → Among i (made_by (deed_of e) made)
still_made (events.Create j) i made h = inr h
still_made _ i made h = h

used_after : (made : List Instance) (es : List Event) → AreCreated made es → (q : ℕ) (i : Instance) → UsesReducer (slice_get es q) i → Among i made ⊎ IsAhead i es q
used_after made [] h q i u = absurd u
used_after made (e ∷ es) h zero i u = inl (use_is_of e i made u h.0)
used_after made (e ∷ es) h (suc q) i u = by (used_after (made_by (deed_of e) made) es h.1 q i u)
  where
    now : Among i made ⊎ (e ≡ events.Create i) → Among i made ⊎ IsAhead i (e ∷ es) (suc q)
    now (inl m) = inl m
    now (inr same) = inr (0, omega arith, ap Some same)

    by : Among i (made_by (deed_of e) made) ⊎ IsAhead i es q → Among i made ⊎ IsAhead i (e ∷ es) (suc q)
    by (inl m) = now (made_after e i made m)
    by (inr (k, less, is)) = inr (suc k, omega (arith, less), is)

not_again : (made : List Instance) (es : List Event) → AreCreated made es → (q : ℕ) (i : Instance) → slice_get es q ≡ Some (events.Create i) → Among i made → ⊥
not_again made [] h q i e m = let z : None ≡ Some (events.Create i) = e in absurd (cc)
not_again made (x ∷ es) h zero i e m =
    let same : x ≡ events.Create i = cc in
    subst (λ (x : Event). IsCreated (deed_of x) made) same h.0 m
not_again made (x ∷ es) h (suc q) i e m = not_again (made_by (deed_of x) made) es h.1 q i e (still_made x i made m)

not_twice : (made : List Instance) (es : List Event) → AreCreated made es → (k q : ℕ) (i : Instance) → k < q
    → slice_get es k ≡ Some (events.Create i) → slice_get es q ≡ Some (events.Create i) → ⊥
not_twice made [] h k q i less e f = let z : None ≡ Some (events.Create i) = e in absurd (cc)
not_twice made (x ∷ es) h zero zero i less e f = absurd (omega (arith, less))
not_twice made (x ∷ es) h zero (suc q) i less e f =
    let same : x ≡ events.Create i = cc in
    not_again (made_by (deed_of x) made) es h.1 q i f (subst (λ (x : Event). Among i (made_by (deed_of x) made)) (sym same) (inl refl))
not_twice made (x ∷ es) h (suc k) zero i less e f = absurd (omega (arith, less))
not_twice made (x ∷ es) h (suc k) (suc q) i less e f = not_twice (made_by (deed_of x) made) es h.1 k q i (omega (arith, less)) e f

pub created_before_use : (es : List Event) → AreCreated [] es → AreCreatedBeforeUse es
created_before_use es h = record {
  ahead = λ q i first u. elim (used_after [] es h (q - 1) i u) [
    | inl none ↦ absurd none
    | inr (k, less, is) ↦ (
        let e : suc k - 1 ≡ k = omega arith in
        let f : event_at es (suc k) ≡ Some (events.Create i) = ap (slice_get es) e ∙ is in
        (suc k, omega arith, omega (arith, less), f))
  ];
  once = λ k q i first less e f. not_twice [] es h (k - 1) (q - 1) i (omega (arith, first, less)) e f;
}

pub have_creations : (p : Source) (inputs : List ℤ) → RunsHaveCreations p inputs
have_creations p inputs r es c well run =
    let created = created_before_use es (runs_create p well inputs r es c run) in
    record { created = created; first = λ t k q h. first_is t es created k q h }
