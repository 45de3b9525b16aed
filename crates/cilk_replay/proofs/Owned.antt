-- Each event of a serial run is in the frame that makes it: `in_their_frames`.
--
-- - `frames_from`: the frames of a list by one pass; `all_frames`: what the plan's law says of it;
-- - `passes`: of a run by names it gives the frames that make the events;
-- - `only_one`: an event is in one frame.
use Rattle.std.proofs.Common.{◌≡◌, ◌⊎◌, inl, inr, ⊎_elim, ℕ, ◌+◌, ◌<◌, ◌≤◌, List, [], ◌∷◌, ◌++◌, map, length, get_or, slice_index_or, Option, Some, refl, sym, ap, ap₂, ◌∙◌, subst, arith, append_assoc, append-nil, length-append}
use Rattle.std.proofs.lemmas.Bool.{cases_lt}
use Rattle.std.proofs.lemmas.List.{get_or-append-add}
use Rattle.cilk_types.specs.declared.event.Event.{Event}
use Rattle.cilk_types.specs.declared.event.Event.TheVariants as events
use Rattle.cilk_types.specs.declared.invocation.Invocation.{Invocation}
use Rattle.cilk_types.specs.declared.invocation.Invocation.TheVariants.{Call, Spawn}
use Rattle.cilk_program.specs.Outcomes.{Leaves}
use Rattle.cilk_program.specs.SerialRun.{Transcript}
use Rattle.cilk_program.specs.Syntax.{Source}
use Rattle.cilk_tree.specs.Races.{event_at}
use Rattle.cilk_tree.specs.Frames.{Enters, IsInFrame, BeginsAFrame, AreFrames}
use Rattle.cilk_tree.proofs.Framed.{SoFar, frames_first, frames_next, frames_all, begins}
use Rattle.cilk_determinacy.specs.Runs.{Name, Begins, Resumes, Creates, Updates, Sets, Values, Prints, Reads, Writes, Syncs, Ends, Passes, Run, act, child}
use Rattle.cilk_determinacy.specs.Traces.{Due, begin_due, resume_due, neither_due, IsFramed, shape_of}
use Rattle.cilk_determinacy.specs.FrameEnvs.{FrameEnv}
use Rattle.cilk_determinacy.specs.Nested.{named}
use Rattle.cilk_determinacy.specs.Numbers.{frame_number, start_event, numbered_events}
use Rattle.cilk_determinacy.proofs.Determinate.{serial_numbered}
use Rattle.cilk_determinacy.proofs.Numbered.{events_numbered}
use Rattle.cilk_replay.specs.Owned.{makers, maker_numbers, EventsAreInTheirFrames}

-- ---- one pass over a list

-- the frame after an event
abbrev entered : Event → ℕ → ℕ
entered (events.Begin f) g = f
entered (events.Resume f) g = f
entered e g = g

abbrev frames_from : ℕ → List Event → List ℕ
frames_from g [] = []
frames_from g (e ∷ es) = entered e g ∷ frames_from (entered e g) es

abbrev last_from : ℕ → List Event → ℕ
last_from g [] = g
last_from g (e ∷ es) = last_from (entered e g) es

from_both : (g : ℕ) (es xs : List Event) → frames_from g (es ++ xs) ≡ frames_from g es ++ frames_from (last_from g es) xs
from_both g [] xs = refl
from_both g (e ∷ es) xs = ap (λ (l : List ℕ). entered e g ∷ l) (from_both (entered e g) es xs)

goes : (e : Event) (g : ℕ) → Enters (Some e) (entered e g) ⊎ ((entered e g ≡ g) × ((other : ℕ) → Enters (Some e) other → ⊥))
goes (events.Begin f) g = inl refl
goes (events.Resume f) g = inl refl
goes (events.Spawn f) g = inr (refl, λ o h. h)
goes (events.Call f) g = inr (refl, λ o h. h)
goes events.Sync g = inr (refl, λ o h. h)
goes events.End g = inr (refl, λ o h. h)
goes (events.Read c v) g = inr (refl, λ o h. h)
goes (events.Write c v) g = inr (refl, λ o h. h)
goes (events.Create i) g = inr (refl, λ o h. h)
goes (events.Update i v) g = inr (refl, λ o h. h)
goes (events.Set i v) g = inr (refl, λ o h. h)
goes (events.Value i v) g = inr (refl, λ o h. h)
goes (events.Print v) g = inr (refl, λ o h. h)

record IsPassed (es : List Event) (i : ℕ) (frames : List ℕ) : Type 0 where
  frame : ℕ
  so_far : SoFar es i frames frame

passed : (es : List Event) → BeginsAFrame es → (done rest : List Event) (frames : List ℕ) (g i : ℕ) → es ≡ done ++ rest → i ≡ length done
    → SoFar es i frames g → IsPassed es (length es) (frames ++ frames_from g rest)
passed es begin done [] frames g i is at h =
    let l = ap length is in
    let n = length-append {A = Event} done [] in
    let all : i ≡ length es = omega (arith, at, l, n) in
    record { frame = g; so_far = subst (λ j. SoFar es j (frames ++ []) g) all (subst (λ fs. SoFar es i fs g) (sym (append-nil frames)) h) }
passed es begin done (e ∷ rest) frames g i is at h =
    let l = ap length is in
    let n = length-append done (e ∷ rest) in
    let less : i < length es = omega (arith, at, l, n) in
    let place : length done + 0 ≡ i = omega (arith, at) in
    let here : get_or es i events.Sync ≡ e = ap (λ (x : List Event). get_or x i events.Sync) is ∙ ap (λ j. get_or (done ++ e ∷ rest) j events.Sync) (sym place) ∙ get_or-append-add done (e ∷ rest) 0 events.Sync in
    let next = frames_next es i frames (frames ++ entered e g ∷ []) g (entered e g) events.Sync begin h less
    (subst (λ (x : Event). Enters (Some x) (entered e g) ⊎ ((entered e g ≡ g) × ((other : ℕ) → Enters (Some x) other → ⊥))) (sym here) (goes e g)) refl in
    let longer = length-append done (e ∷ []) in
    subst (IsPassed es (length es)) (append_assoc frames (entered e g ∷ []) (frames_from (entered e g) rest))
    (passed es begin (done ++ e ∷ []) rest (frames ++ entered e g ∷ []) (entered e g) (i + 1) (is ∙ sym (append_assoc done (e ∷ []) rest)) (omega (arith, at, longer)) next)

all_frames : (es : List Event) (g : ℕ) → BeginsAFrame es → AreFrames es (frames_from g es)
all_frames es g begin =
    let h = passed es begin [] es [] g 0 refl refl (frames_first es g) in
    frames_all es (length es) (frames_from g es) h.frame h.so_far (omega arith) (omega arith)

-- ---- of a run by names

map_both : (f : Name → ℕ) (l m : List Name) → map f (l ++ m) ≡ map f l ++ map f m
map_both f [] m = refl
map_both f (x ∷ l) m = ap (λ (z : List ℕ). f x ∷ z) (map_both f l m)

module _ (p : Source) (r : Transcript) where
  -- where a frame is entered first, any other may have been before
  abbrev Since : Due → ℕ → Name → Type 0
  Since begin_due g name = Unit {0}
  Since resume_due g name = Unit {0}
  Since neither_due g name = g ≡ frame_number p r name

  abbrev Passing : ℕ → Name → Run FrameEnv → Type 0
  Passing g name t = frames_from g (numbered_events p r name t) ≡ map (frame_number p r) (makers name t)

  started : (k : Invocation) (n g : ℕ) → entered (start_event k n) g ≡ g
  started Call n g = refl
  started Spawn n g = refl

  passes : (due : Due) (g : ℕ) (name : Name) (t : Run FrameEnv) → IsFramed due t → Since due g name → Passing g name t
  passes begin_due g name (act (Passes Begins) t) f h = ap (λ (z : List ℕ). frame_number p r name ∷ z) (passes neither_due (frame_number p r name) name t f refl)
  passes resume_due g name (act (Passes Resumes) t) f h = ap (λ (z : List ℕ). frame_number p r name ∷ z) (passes neither_due (frame_number p r name) name t f refl)
  passes neither_due g name (act (Reads c v) t) f h = ap₂ (λ (n : ℕ) (z : List ℕ). n ∷ z) h (passes neither_due g name t f h)
  passes neither_due g name (act (Writes c v) t) f h = ap₂ (λ (n : ℕ) (z : List ℕ). n ∷ z) h (passes neither_due g name t f h)
  passes neither_due g name (act Syncs t) f h = ap₂ (λ (n : ℕ) (z : List ℕ). n ∷ z) h (passes neither_due g name t f h)
  passes neither_due g name (act (Ends v gone) t) f h = subst (λ (z : Run FrameEnv). Passing g name (act (Ends v gone) z)) (sym f) (ap (λ (n : ℕ). n ∷ []) h)
  passes neither_due g name (act (Passes (Creates i)) t) f h = ap₂ (λ (n : ℕ) (z : List ℕ). n ∷ z) h (passes neither_due g name t f h)
  passes neither_due g name (act (Passes (Updates i x)) t) f h = ap₂ (λ (n : ℕ) (z : List ℕ). n ∷ z) h (passes neither_due g name t f h)
  passes neither_due g name (act (Passes (Sets i x)) t) f h = ap₂ (λ (n : ℕ) (z : List ℕ). n ∷ z) h (passes neither_due g name t f h)
  passes neither_due g name (act (Passes (Values i x)) t) f h = ap₂ (λ (n : ℕ) (z : List ℕ). n ∷ z) h (passes neither_due g name t f h)
  passes neither_due g name (act (Passes (Prints x)) t) f h = ap₂ (λ (n : ℕ) (z : List ℕ). n ∷ z) h (passes neither_due g name t f h)
  passes neither_due g name (child k w u t) f h =
      let e = start_event k (frame_number p r w.name) in
      let inner = passes begin_due (entered e g) w.name u f.0 tt in
      let rest = passes resume_due (last_from (entered e g) (numbered_events p r w.name u)) name t f.1 tt in
      ap₂ (λ (n : ℕ) (z : List ℕ). n ∷ z) (started k (frame_number p r w.name) g ∙ h)
      (from_both (entered e g) (numbered_events p r w.name u) (numbered_events p r name t)
      ∙ ap₂ (λ (l m : List ℕ). l ++ m) inner rest
      ∙ sym (map_both (frame_number p r) (makers w.name u) (makers name t)))
  passes due g name t f h = absurd f

-- ---- one frame

entered_once : (o : Option Event) (f g : ℕ) → Enters o f → Enters o g → f ≡ g
entered_once (Some (events.Begin n)) f g h k = sym h ∙ k
entered_once (Some (events.Resume n)) f g h k = sym h ∙ k
entered_once o f g h k = absurd h

only_one : (es : List Event) (q f g : ℕ) → IsInFrame es q f → IsInFrame es q g → f ≡ g
only_one es q f g h k =
    ⊎_elim
    (λ (less : h.since < k.since). absurd (h.last k.since g less k.upto k.entered))
    (λ (low : k.since ≤ h.since). ⊎_elim
    (λ (less : k.since < h.since). absurd (k.last h.since f less h.upto h.entered))
    (λ (low' : h.since ≤ k.since).
    let same : k.since ≡ h.since = omega (arith, low, low') in
    entered_once (event_at es h.since) f g h.entered (subst (λ (n : ℕ). Enters (event_at es n) g) same k.entered))
    (cases_lt k.since h.since))
    (cases_lt h.since k.since)

pub in_their_frames : EventsAreInTheirFrames
in_their_frames p inputs r es outcome well runs =
    let n = serial_numbered p inputs r es outcome well runs in
    let e = events_numbered p inputs r es (Leaves outcome) well runs in
    let list : frames_from 0 es ≡ maker_numbers p r = ap (frames_from 0) e.events ∙ passes p r begin_due 0 [] (named p r) n.framed tt in
    let each : AreFrames es (maker_numbers p r) = subst (AreFrames es) list (all_frames es 0 (begins (shape_of (named p r)) es n.spells)) in
    record { each = each; only = λ i frame less h. only_one es (i + 1) frame (slice_index_or (maker_numbers p r) i 0) h (each.each i less) }
