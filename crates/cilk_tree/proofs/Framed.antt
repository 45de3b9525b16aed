-- The frames of a run's events, found in one pass over them.
--
-- - `SoFar`: the state of the pass after n events; `frames_first`, `frames_next`, `frames_all`: at
--   the start, at each event and after the last;
-- - `begins`: a run that has a shape begins with a frame's `begin`.
use Rattle.std.proofs.Common.{◌≡◌, ◌≢◌, ◌⊎◌, ⊎_elim, ℕ, ◌+◌, ◌-◌, ◌<◌, ◌≤◌, List, [], ◌∷◌, ◌++◌, length, get_or, map, Option, Some, slice_get, refl, sym, ap, ◌∙◌, subst, arith, length-append}
use Rattle.std.proofs.lemmas.List.{get_or_push, get_or_append_left}
use Rattle.std.proofs.lemmas.Option.{slice_get-get_or}
use mathlib.Core.Logic.{dite}
use native.Mathlib.Decide.{ℕ_discrete}
use Rattle.cilk_types.specs.declared.event.Event.{Event}
use Rattle.cilk_types.specs.declared.event.Event.TheVariants as events
use Rattle.cilk_tree.specs.declared.mark.Mark.TheVariants as mark
use Rattle.cilk_tree.specs.Marks.{mark_of}
use Rattle.cilk_tree.specs.Races.{event_at}
use Rattle.cilk_tree.specs.Shape.{Shape, Spells, marks}
use Rattle.cilk_tree.specs.Frames.{Enters, IsInFrame, BeginsAFrame, AreFrames}

pub record SoFar (es : List Event) (i : ℕ) (frames : List ℕ) (frame : ℕ) : Type 0 where
  pub many : length frames ≡ i
  pub each : (k : ℕ) → k < i → IsInFrame es (k + 1) (get_or frames k 0)
  pub here : 0 < i → IsInFrame es i frame

-- the frame after the event of index i
abbrev Goes : Event → ℕ → ℕ → Type 0
Goes e frame next = Enters (Some e) next ⊎ ((next ≡ frame) × ((other : ℕ) → Enters (Some e) other → ⊥))

pub frames_first : (es : List Event) (frame : ℕ) → SoFar es 0 [] frame
frames_first es frame = record { many = refl; each = λ k lt. absurd (omega (arith, lt)); here = λ lt. absurd (omega (arith, lt)) }

at_index : (es : List Event) (i : ℕ) (d : Event) → i < length es → event_at es (i + 1) ≡ Some (get_or es i d)
at_index es i d lt = let same : i + 1 - 1 ≡ i = omega arith in ap (λ (k : ℕ). slice_get es k) same ∙ slice_get-get_or es i d lt

in_next : (es : List Event) (i frame next : ℕ) (e : Event) → BeginsAFrame es → event_at es (i + 1) ≡ Some e → (0 < i → IsInFrame es i frame) → Goes e frame next → IsInFrame es (i + 1) next
in_next es i frame next e begins at here goes = ⊎_elim
    (λ (enters : Enters (Some e) next). record {
      since = i + 1;
      upto = omega arith;
      entered = subst (λ (o : Option Event). Enters o next) (sym at) enters;
      last = λ q other lt le _. absurd (omega (arith, lt, le));
    })
    (λ (stays : (next ≡ frame) × ((other : ℕ) → Enters (Some e) other → ⊥)). dite (ℕ_discrete i 0)
    (λ (first : i ≡ 0).
    let one : i + 1 ≡ 1 = omega arith in
    let is : Some e ≡ Some (events.Begin begins.0) = sym at ∙ ap (λ (p : ℕ). event_at es p) one ∙ begins.1 in
    absurd (stays.1 begins.0 (subst (λ (o : Option Event). Enters o begins.0) (sym is) refl)))
    (λ (later : i ≢ 0).
    let before = here (omega arith) in
    record {
      since = before.since;
      upto = let l = before.upto in omega (arith, l);
      entered = subst (λ (f : ℕ). Enters (event_at es before.since) f) (sym stays.0) before.entered;
      last = λ q other lt le enters. dite (ℕ_discrete q (i + 1))
          (λ (same : q ≡ i + 1). stays.1 other (subst (λ (o : Option Event). Enters o other) (ap (λ (p : ℕ). event_at es p) same ∙ at) enters))
          (λ (apart : q ≢ i + 1). before.last q other lt (omega (arith, le)) enters);
    }))
    goes

pub frames_next : (es : List Event) (i : ℕ) (frames frames' : List ℕ) (frame next : ℕ) (d : Event) → BeginsAFrame es → SoFar es i frames frame → i < length es → Goes (get_or es i d) frame next → frames' ≡ frames ++ next ∷ []
    → SoFar es (i + 1) frames' next
frames_next es i frames frames' frame next d begins h lt goes longer =
    let now = in_next es i frame next (get_or es i d) begins (at_index es i d lt) h.here goes in
    let many = h.many in
    let long = length-append frames (next ∷ []) in
    let same = ap length longer in
    record {
      many = omega (arith, many, long, same);
      each = λ k l. subst (λ (fs : List ℕ). IsInFrame es (k + 1) (get_or fs k 0)) (sym longer) (dite (ℕ_discrete k i)
          (λ (last : k ≡ i).
          let place : k ≡ length frames = omega arith in
          let f : get_or (frames ++ next ∷ []) k 0 ≡ next = get_or_push frames next 0 k (sym place) in
          subst (λ (x : ℕ). IsInFrame es (k + 1) x) (sym f) (subst (λ (j : ℕ). IsInFrame es (j + 1) next) (sym last) now))
          (λ (other : k ≢ i).
          let f : get_or (frames ++ next ∷ []) k 0 ≡ get_or frames k 0 = get_or_append_left frames (next ∷ []) 0 k (omega (arith, l)) in
          subst (λ (x : ℕ). IsInFrame es (k + 1) x) (sym f) (h.each k (omega (arith, l)))));
      here = λ _. now;
    }

pub frames_all : (es : List Event) (i : ℕ) (frames : List ℕ) (frame : ℕ) → SoFar es i frames frame → i ≤ length es → length es ≤ i → AreFrames es frames
frames_all es i frames frame h most past =
    let many = h.many in
    record { all = omega (arith, many, most, past); each = λ k l. h.each k (omega (arith, l, past)) }

begun : (e : Event) → mark_of e ≡ mark.Begin → (f : ℕ) × (e ≡ events.Begin f)
begun (events.Begin f) is = (f, refl)
begun e is = absurd (cc is)

pub begins : (shape : Shape) (es : List Event) → Spells shape es → BeginsAFrame es
begins shape [] is = absurd (cc is)
begins shape (e ∷ es) is = let b = begun e (let c : mark_of e ∷ map mark_of es ≡ mark.Begin ∷ marks shape = is in cc c) in (b.0, ap Some b.1)
