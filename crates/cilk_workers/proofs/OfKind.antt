-- Events by their kinds.
--
-- - `with_kind`, `with_number`: the event of a kind and a value;
-- - `what_plain`, `what_end`, `what_resume`, `finish_event`, `resume_event`: what it is to shared
--   words;
-- - `quiet`: what it is to reducers.
use Rattle.std.proofs.Common.{◌≡◌, ℕ, ◌<◌, ℤ, pos, Bool, true, false, nat_eq, if◌then◌else◌, List, [], ◌∷◌, length, Option, Some, None, refl, sym, ap, ◌∙◌, subst, arith, eqb-true}
use Rattle.cilk_types.specs.declared.event.Event.{Event}
use Rattle.cilk_types.specs.declared.event.Event.TheVariants as events
use Rattle.cilk_tree.specs.Races.{event_at}
use Rattle.cilk_replay.specs.Asking.{IsAnswerTo}
use Rattle.cilk_frames.specs.declared.cursor.Answer.TheVariants.{Done}
use Rattle.cilk_shared.specs.Reducers.{of_event}
use Rattle.cilk_shared.specs.declared.reducers.Reducers.{Reducers}
use Rattle.cilk_tree.specs.Kinds.{kind_of, kind_of_event}
use Rattle.cilk_tree.specs.declared.kind.Kind.{Kind}
use Rattle.cilk_tree.specs.declared.kind.Kind.TheVariants as kinds
use Rattle.cilk_tree.specs.declared.event_order.EventOrder.{EventOrder}
use Rattle.cilk_tree.specs.Word.{plain, resume, finish, spawn, is_spawn, resumption, word_event, event, predecessors_of, word_step}
use Rattle.cilk_workers.specs.Asks.{Carries, HasNumber}
use Rattle.cilk_workers.specs.Turns.{IsSilent}

-- ---- the event of a kind

abbrev pub event_with : Kind → ℤ → Event
event_with (kinds.Begin f) v = events.Begin f
event_with (kinds.Spawn f) v = events.Spawn f
event_with (kinds.Call f) v = events.Call f
event_with (kinds.Resume f) v = events.Resume f
event_with kinds.Sync v = events.Sync
event_with kinds.End v = events.End
event_with (kinds.Read c) v = events.Read c v
event_with (kinds.Write c) v = events.Write c v
event_with (kinds.Create i) v = events.Create i
event_with (kinds.Update i) v = events.Update i v
event_with (kinds.Set i) v = events.Set i v
event_with (kinds.Value i) v = events.Value i v
event_with kinds.Print v = events.Print v

abbrev value_in : Event → ℤ
value_in (events.Begin f) = pos 0
value_in (events.Spawn f) = pos 0
value_in (events.Call f) = pos 0
value_in (events.Resume f) = pos 0
value_in events.Sync = pos 0
value_in events.End = pos 0
value_in (events.Read c v) = v
value_in (events.Write c v) = v
value_in (events.Create i) = pos 0
value_in (events.Update i v) = v
value_in (events.Set i v) = v
value_in (events.Value i v) = v
value_in (events.Print v) = v

with_value : (e : Event) → event_with (kind_of e) (value_in e) ≡ e
with_value (events.Begin f) = refl
with_value (events.Spawn f) = refl
with_value (events.Call f) = refl
with_value (events.Resume f) = refl
with_value events.Sync = refl
with_value events.End = refl
with_value (events.Read c v) = refl
with_value (events.Write c v) = refl
with_value (events.Create i) = refl
with_value (events.Update i v) = refl
with_value (events.Set i v) = refl
with_value (events.Value i v) = refl
with_value (events.Print v) = refl

pub with_kind : (o : Option Event) (k : Kind) → kind_of_event o ≡ Some k → (v : ℤ) × (o ≡ Some (event_with k v))
with_kind None k q = absurd (cc q)
with_kind (Some e) k q =
    let z : kind_of e ≡ k = cc q in
    (value_in e, ap (λ (x : Event). Some x) (sym (with_value e) ∙ ap (λ (j : Kind). event_with j (value_in e)) z))

carried : (e : Event) (v : ℤ) → Carries (Some e) v → value_in e ≡ v
carried (events.Write c w) v h = h
carried (events.Update i w) v h = h
carried (events.Set i w) v h = h
carried (events.Print w) v h = h
carried e v h = absurd h

pub with_number : (o : Option Event) (k : Kind) (v : ℤ) → kind_of_event o ≡ Some k → Carries o v → o ≡ Some (event_with k v)
with_number None k v q h = absurd h
with_number (Some e) k v q h =
    let z : kind_of e ≡ k = cc q in
    ap (λ (x : Event). Some x) (sym (with_value e) ∙ ap (λ (j : Kind). event_with j (value_in e)) z ∙ ap (λ (n : ℤ). event_with k n) (carried e v h))

-- its number is that of its ask
abbrev pub IsNumberedKind : Kind → Type 0
IsNumberedKind (kinds.Write c) = Unit {0}
IsNumberedKind (kinds.Update i) = Unit {0}
IsNumberedKind (kinds.Set i) = Unit {0}
IsNumberedKind kinds.Print = Unit {0}
IsNumberedKind k = ⊥

carries : (k : Kind) (v : ℤ) → IsNumberedKind k → Carries (Some (event_with k v)) v
carries (kinds.Write c) v n = refl
carries (kinds.Update i) v n = refl
carries (kinds.Set i) v n = refl
carries kinds.Print v n = refl
carries k v n = absurd n

pub has_number : (o : Option Event) (k : Kind) → kind_of_event o ≡ Some k → IsNumberedKind k → HasNumber o
has_number o k q n = let e = with_kind o k q in (e.0, subst (λ (x : Option Event). Carries x e.0) (sym e.1) (carries k e.0 n))

-- ---- its answer

-- the event is answered with nothing
abbrev pub IsDoneKind : Kind → Type 0
IsDoneKind (kinds.Begin f) = Unit {0}
IsDoneKind (kinds.Resume f) = Unit {0}
IsDoneKind kinds.Sync = Unit {0}
IsDoneKind (kinds.Write c) = Unit {0}
IsDoneKind (kinds.Create i) = Unit {0}
IsDoneKind (kinds.Update i) = Unit {0}
IsDoneKind (kinds.Set i) = Unit {0}
IsDoneKind kinds.Print = Unit {0}
IsDoneKind k = ⊥

pub done : (k : Kind) (v : ℤ) → IsDoneKind k → IsAnswerTo (event_with k v) Done
done (kinds.Begin f) v d = tt
done (kinds.Resume f) v d = tt
done kinds.Sync v d = tt
done (kinds.Write c) v d = tt
done (kinds.Create i) v d = tt
done (kinds.Update i) v d = tt
done (kinds.Set i) v d = tt
done kinds.Print v d = tt
done k v d = absurd d

pub silent_done : (k : Kind) → IsSilent k → IsDoneKind k
silent_done (kinds.Begin f) s = tt
silent_done (kinds.Resume f) s = tt
silent_done kinds.Sync s = tt
silent_done k s = absurd s

-- ---- shared words

-- whatever comes before it, the event is no step on a word
abbrev pub IsPlainKind : Kind → Type 0
IsPlainKind (kinds.Begin f) = Unit {0}
IsPlainKind (kinds.Call f) = Unit {0}
IsPlainKind kinds.Sync = Unit {0}
IsPlainKind (kinds.Create i) = Unit {0}
IsPlainKind (kinds.Update i) = Unit {0}
IsPlainKind (kinds.Set i) = Unit {0}
IsPlainKind (kinds.Value i) = Unit {0}
IsPlainKind kinds.Print = Unit {0}
IsPlainKind k = ⊥

plain_kind : (es : List Event) (p : ℕ) (k : Kind) (v : ℤ) (ps : List ℕ) → IsPlainKind k → word_event es p (Some (event_with k v)) ps ≡ plain
plain_kind es p (kinds.Begin f) v ps h = refl
plain_kind es p (kinds.Call f) v ps h = refl
plain_kind es p kinds.Sync v ps h = refl
plain_kind es p (kinds.Create i) v ps h = refl
plain_kind es p (kinds.Update i) v ps h = refl
plain_kind es p (kinds.Set i) v ps h = refl
plain_kind es p (kinds.Value i) v ps h = refl
plain_kind es p kinds.Print v ps h = refl
plain_kind es p k v ps h = absurd h

of_event_at : (s : EventOrder) (p : ℕ) (e : Event) → event s p ≡ Some e → word_step s p ≡ word_event s.events p (Some e) (predecessors_of s p)
of_event_at s p e is = ap (λ (o : Option Event). word_event s.events p o (predecessors_of s p)) is

pub what_plain : (s : EventOrder) (p : ℕ) (k : Kind) → kind_of_event (event s p) ≡ Some k → IsPlainKind k → word_step s p ≡ plain
what_plain s p k q h = let e = with_kind (event s p) k q in of_event_at s p (event_with k e.0) e.1 ∙ plain_kind s.events p k e.0 (predecessors_of s p) h

pub what_spawn : (s : EventOrder) (p f : ℕ) → kind_of_event (event s p) ≡ Some (kinds.Spawn f) → word_step s p ≡ spawn
what_spawn s p f q = let e = with_kind (event s p) (kinds.Spawn f) q in of_event_at s p (events.Spawn f) e.1

-- an `end` that isn't the last event
pub what_end : (s : EventOrder) (p : ℕ) → kind_of_event (event s p) ≡ Some kinds.End → p < length s.events → word_step s p ≡ plain
what_end s p q less = let e = with_kind (event s p) kinds.End q in of_event_at s p events.End e.1 ∙ by (nat_eq p (length s.events)) refl
  where
    by : (b : Bool) → nat_eq p (length s.events) ≡ b → (if b then finish else plain) ≡ plain
    by true is = absurd (let same = eqb-true p (length s.events) is in omega (arith, same, less))
    by false is = refl

chosen : (b : Bool) (q : ℕ) → ((k : ℕ) → (if b then resume q else plain) ≡ resume k → ⊥) → (if b then resume q else plain) ≡ plain
chosen true q h = absurd (h q refl)
chosen false q h = refl

not_resumed : (es : List Event) (ps : List ℕ) → ((k : ℕ) → resumption es ps ≡ resume k → ⊥) → resumption es ps ≡ plain
not_resumed es [] h = refl
not_resumed es (q ∷ []) h = chosen (is_spawn (event_at es q)) q h
not_resumed es (q ∷ r ∷ ps) h = refl

-- a `resume` that follows no spawn
pub what_resume : (s : EventOrder) (p f : ℕ) → kind_of_event (event s p) ≡ Some (kinds.Resume f) → ((k : ℕ) → word_step s p ≡ resume k → ⊥) → word_step s p ≡ plain
what_resume s p f q none =
    let e = with_kind (event s p) (kinds.Resume f) q in
    let is = of_event_at s p (events.Resume f) e.1 in
    is ∙ not_resumed s.events (predecessors_of s p) (λ k h. none k (is ∙ h))

-- an event of another kind is no `sync`
pub no_sync : (o : Option Event) (k : Kind) → kind_of_event o ≡ Some k → (k ≡ kinds.Sync → ⊥) → o ≡ Some events.Sync → ⊥
no_sync o k q other is =
    let z : Some k ≡ Some kinds.Sync = sym q ∙ ap kind_of_event is in
    other (cc z)

not_finish : (b : Bool) (q : ℕ) → (if b then resume q else plain) ≡ finish → ⊥
not_finish true q h = cc h
not_finish false q h = cc h

no_finish : (es : List Event) (ps : List ℕ) → resumption es ps ≡ finish → ⊥
no_finish es [] h = cc h
no_finish es (q ∷ []) h = not_finish (is_spawn (event_at es q)) q h
no_finish es (q ∷ r ∷ ps) h = cc h

-- the run's last step on a word is an `end`
pub finish_event : (es : List Event) (p : ℕ) (o : Option Event) (ps : List ℕ) → word_event es p o ps ≡ finish → o ≡ Some events.End
finish_event es p (Some events.End) ps e = refl
finish_event es p (Some (events.Resume f)) ps e = absurd (no_finish es ps e)
finish_event es p o ps e = absurd (cc e)

no_resume : (b : Bool) (k : ℕ) → (if b then finish else plain) ≡ resume k → ⊥
no_resume true k h = cc h
no_resume false k h = cc h

-- what resumes a spawn is a `resume`
pub resume_event : (es : List Event) (p : ℕ) (o : Option Event) (ps : List ℕ) (k : ℕ) → word_event es p o ps ≡ resume k → (f : ℕ) × (o ≡ Some (events.Resume f))
resume_event es p (Some (events.Resume f)) ps k e = (f, refl)
resume_event es p (Some events.End) ps k e = absurd (no_resume (nat_eq p (length es)) k e)
resume_event es p o ps k e = absurd (cc e)

-- ---- reducers

-- the event is of no reducer
abbrev pub IsQuietKind : Kind → Type 0
IsQuietKind (kinds.Begin f) = Unit {0}
IsQuietKind (kinds.Call f) = Unit {0}
IsQuietKind (kinds.Resume f) = Unit {0}
IsQuietKind kinds.Sync = Unit {0}
IsQuietKind k = ⊥

quiet_kind : (r : Reducers) (f : ℕ) (k : Kind) (v : ℤ) → IsQuietKind k → of_event r f (Some (event_with k v)) ≡ []
quiet_kind r f (kinds.Begin g) v h = refl
quiet_kind r f (kinds.Call g) v h = refl
quiet_kind r f (kinds.Resume g) v h = refl
quiet_kind r f kinds.Sync v h = refl
quiet_kind r f k v h = absurd h

pub quiet : (r : Reducers) (f : ℕ) (o : Option Event) (k : Kind) → kind_of_event o ≡ Some k → IsQuietKind k → of_event r f o ≡ []
quiet r f o k q h = let e = with_kind o k q in ap (λ (x : Option Event). of_event r f x) e.1 ∙ quiet_kind r f k e.0 h

pub silent_quiet : (k : Kind) → IsSilent k → IsQuietKind k
silent_quiet (kinds.Begin f) s = tt
silent_quiet (kinds.Resume f) s = tt
silent_quiet kinds.Sync s = tt
silent_quiet k s = absurd s
