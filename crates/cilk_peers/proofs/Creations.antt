-- The first view-read race of a run whose reducers are created.
use Rattle.std.proofs.Common.{◌≡◌, ◌<◌, Option, Some, refl, sym, ◌∙◌, ap, subst, arith, ◌⊎◌, inl, inr}
use Rattle.std.proofs.lemmas.Bool.{cases_order}
use Rattle.cilk_types.specs.declared.event.Event.{Event}
use Rattle.cilk_types.specs.declared.event.Event.TheVariants as events
use Rattle.cilk_types.specs.declared.event.Instance.{Instance}
use Rattle.cilk_tree.specs.Races.{event_at}
use Rattle.cilk_peers.specs.ViewRaces.{ReadsReducer, UsesReducer, FirstIsCreationAndUse}

-- a reducer-read is the creation or a use
told : (o : Option Event) (i : Instance) → ReadsReducer o i → (o ≡ Some (events.Create i)) ⊎ UsesReducer o i
told (Some (events.Create j)) i h = inl (ap (λ (k : Instance). Some (events.Create k)) h)
told (Some (events.Set j v)) i h = inr h
told (Some (events.Value j v)) i h = inr h
told _ i h = absurd h

creation_reads : (o : Option Event) (i : Instance) → o ≡ Some (events.Create i) → ReadsReducer o i
creation_reads o i h = subst (λ (x : Option Event). ReadsReducer x i) (sym h) refl

use_reads : (o : Option Event) (i : Instance) → UsesReducer o i → ReadsReducer o i
use_reads (Some (events.Set j v)) i h = h
use_reads (Some (events.Value j v)) i h = h
use_reads _ i h = absurd h

not_both : (o : Option Event) (i : Instance) → o ≡ Some (events.Create i) → UsesReducer o i → ⊥
not_both o i h u = subst (λ (x : Option Event). UsesReducer x i) h u

pub first_is : FirstIsCreationAndUse
first_is t es created p q f =
    let r = f.race in
    let a = r.first in
    let b = r.earlier in
    let i = r.instance in
    let made : event_at es p ≡ Some (events.Create i) = elim (told (event_at es p) i r.one) [
      | inl h ↦ h
      | inr h ↦ (let k = created.ahead p i a h in let l = f.first_read k.0 k.1 (creation_reads (event_at es k.0) i k.3) in let m = k.2 in absurd (omega (arith, l, m)))
    ] in
    record {
      instance = i;
      created = made;
      used = elim (told (event_at es q) i r.other) [
        | inl h ↦ absurd (created.once p q i a b made h)
        | inr h ↦ h
      ];
      differ = r.differ;
      least = λ p' q' j x y m u n.
          let k = created.ahead q' j y u in
          let z : p' < q' = elim (cases_order p' q') [
            | inl same ↦ absurd (not_both (event_at es q') j (ap (event_at es) (sym same) ∙ m) u)
            | inr (inl l) ↦ l
            | inr (inr l) ↦ (let v = k.2 in absurd (created.once k.0 p' j k.1 (omega (arith, l, v)) k.3 m))
          ] in
          f.least p' q' (record { first = x; earlier = z; instance = j; one = creation_reads (event_at es p') j m; other = use_reads (event_at es q') j u; differ = n });
    }
