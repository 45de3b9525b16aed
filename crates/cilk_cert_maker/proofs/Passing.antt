-- The state of the pass over a list of events.
--
-- - `IsWithin`, `within_next`: the frames, and the calls and spawns of each, are at most the events
--   so far;
-- - `Stands`, `stands_first`, `stands_next`, `stands_last`: the events still to come.
use Rattle.std.proofs.Common.{◌≡◌, ℕ, suc, ◌+◌, ◌≤◌, ◌<◌, ◌^◌, List, [], ◌∷◌, length, get_or, drop, map, refl, sym, ap, ◌∙◌, subst, arith, length-append}
use Rattle.std.proofs.lemmas.List.{drop_all}
use Rattle.std.proofs.Math.Seq.{drop-cons}
use Rattle.cilk_types.specs.declared.event.Event.{Event}
use Rattle.cilk_types.specs.declared.limits.TheConstants.{MAX_EVENTS}
use Rattle.cilk_tree.specs.declared.mark.Mark.{Mark}
use Rattle.cilk_tree.specs.declared.mark.Mark.TheVariants.{Begin, End, Sync, Resume, Spawn, Call, Plain}
use Rattle.cilk_tree.specs.Marks.{mark_of}
use Rattle.cilk_tree.specs.Shape.{Shape, Spells}
use Rattle.cilk_cert_text.specs.declared.line.Frame.{Frame}
use Rattle.cilk_cert_maker.specs.declared.walk.Open.{Open}
use Rattle.cilk_cert_maker.specs.Frames.{frames_of, owners_of}
use Rattle.cilk_cert_maker.specs.Walk.{Walked, upper, lower, entered, begun, left, step, walked, opening}
use Rattle.cilk_cert_maker.proofs.Spelling.{back, run_walked}

abbrev pub AreWithin : ℕ → List Open → Type 0
AreWithin n [] = Unit {0}
AreWithin n (o ∷ os) = (o.made ≤ n) × AreWithin n os

pub record IsWithin (n : ℕ) (w : Walked) : Type 0 where
  pub top : w.top.made ≤ n
  pub below : AreWithin n w.below
  pub frames : length w.frames ≤ n + 1

more_within : (n : ℕ) (os : List Open) → AreWithin n os → AreWithin (n + 1) os
more_within n [] h = tt
more_within n (o ∷ os) h = let a = h.0 in (omega (arith, a), more_within n os h.1)

upper_within : (n : ℕ) (o : Open) (os : List Open) → o.made ≤ n → AreWithin n os → (upper o os).made ≤ n + 1
upper_within n o [] h g = omega (arith, h)
upper_within n o (p ∷ ps) h g = let a = g.0 in omega (arith, a)

lower_within : (n : ℕ) (os : List Open) → AreWithin n os → AreWithin (n + 1) (lower os)
lower_within n [] h = tt
lower_within n (p ∷ ps) h = more_within n ps h.1

begun_within : (n : ℕ) (w : Walked) → IsWithin n w → IsWithin (n + 1) (begun w)
begun_within n w h =
    let a = h.top in
    let b = h.frames in
    record { top = omega (arith, a); below = more_within n w.below h.below; frames = omega (arith, b) }

entered_within : (n : ℕ) (w : Walked) → IsWithin n w → IsWithin (n + 1) (entered w)
entered_within n w h =
    let a = h.top in
    let b = h.frames in
    let f : Frame = record { parent = w.top.number; ordinal = w.top.made + 1 } in
    let long = length-append w.frames (f ∷ []) in
    record { top = omega arith; below = (omega (arith, a), more_within n w.below h.below); frames = omega (arith, b, long) }

left_within : (n : ℕ) (w : Walked) → IsWithin n w → IsWithin (n + 1) (left w)
left_within n w h =
    let b = h.frames in
    record { top = upper_within n w.top w.below h.top h.below; below = lower_within n w.below h.below; frames = omega (arith, b) }

plain_within : (n : ℕ) (w : Walked) → IsWithin n w → IsWithin (n + 1) w
plain_within n w h =
    let a = h.top in
    let b = h.frames in
    record { top = omega (arith, a); below = more_within n w.below h.below; frames = omega (arith, b) }

within_next : (n : ℕ) (m : Mark) (w : Walked) → IsWithin n w → IsWithin (n + 1) (step m w)
within_next n Begin w h = begun_within n w h
within_next n End w h = left_within n w h
within_next n Sync w h = begun_within n w h
within_next n Resume w h = begun_within n w h
within_next n Spawn w h = entered_within n w h
within_next n Call w h = entered_within n w h
within_next n Plain w h = plain_within n w h

-- the pass has processed the first n events
pub record Stands (es : List Event) (i : ℕ) (w : Walked) : Type 0 where
  pub ahead : walked (map mark_of (drop i es)) w ≡ walked (map mark_of es) opening
  pub within : IsWithin i w

pub stands_first : (es : List Event) (w : Walked) → w ≡ opening → Stands es 0 w
stands_first es w e =
    subst (λ (v : Walked). Stands es 0 v) (sym e) (record {
      ahead = refl;
      within = record { top = omega arith; below = (omega arith, tt); frames = omega arith };
    })

pub stands_next : (es : List Event) (i : ℕ) (d : Event) (m : Mark) (w w' : Walked) → Stands es i w → i < length es → m ≡ mark_of (get_or es i d) → w' ≡ step m w → Stands es (i + 1) w'
stands_next es i d m w w' s lt is e =
    let one : suc i ≡ i + 1 = omega arith in
    let c : drop i es ≡ get_or es i d ∷ drop (i + 1) es = subst (λ (k : ℕ). drop i es ≡ get_or es i d ∷ drop k es) one (drop-cons es i d lt) in
    let made : w' ≡ step (mark_of (get_or es i d)) w = e ∙ ap (λ (x : Mark). step x w) is in
    record {
      ahead = ap (λ (v : Walked). walked (map mark_of (drop (i + 1) es)) v) made
          ∙ (sym (ap (λ (l : List Event). walked (map mark_of l) w) c) ∙ s.ahead);
      within = subst (λ (v : Walked). IsWithin (i + 1) v) (sym e) (within_next i m w s.within);
    }

pub stands_last : (es trace : List Event) (i : ℕ) (w : Walked) → Stands es i w → length es ≤ i → es ≡ trace → (s : Shape) → Spells s trace
    → w ≡ back (record { number = 0; made = 0 }) [] (frames_of s) (owners_of s)
stands_last es trace i w h far is s spells =
    let none : drop i es ≡ [] = drop_all i es far in
    ap (λ (l : List Event). walked (map mark_of l) w) (sym none)
    ∙ (h.ahead ∙ (ap (λ (l : List Event). walked (map mark_of l) opening) is ∙ (ap (λ (ms : List Mark). walked ms opening) spells ∙ run_walked s)))

-- the next event is counted
pub room : (es trace : List Event) (i : ℕ) (w : Walked) → Stands es i w → i < length es → es ≡ trace → length trace ≤ MAX_EVENTS → (w.top.made + 1 < 2 ^ 32) × (length w.frames + 1 < 2 ^ 32)
room es trace i w h lt is few =
    let long = ap (λ (l : List Event). length l) is in
    let a = h.within.top in
    let b = h.within.frames in
    (omega (arith, a, lt, long, few), omega (arith, b, lt, long, few))
