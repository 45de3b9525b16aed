-- Frames do what they request, and so they begin and resume where they must.
--
-- - `turn`, `at_stage`: what may come at a stage of a frame, and which stage comes next;
-- - `opening_sound`: the asks that open a frame are writes and creations;
-- - `marks`: a deed that answers an ask is of its kind;
-- - `walk`: the stage that a frame has come to by its deeds;
-- - `in_order`: it begins first and resumes after a child;
-- - `does_as_asked`: the law.
use Rattle.std.proofs.Common.{◌≡◌, ◌⊎◌, inl, inr, ⊎_elim, ℕ, zero, suc, ℤ, Bool, true, false, true≢false, cond, List, [], ◌∷◌, ◌++◌, Option, Some, None, refl, sym, ap, ◌∙◌, subst, append-nil, append_assoc, arith}
use Rattle.std.proofs.lemmas.List.{map-append}
use Rattle.cilk_types.specs.declared.fault.Fault.{Fault}
use Rattle.cilk_types.specs.declared.invocation.Invocation.TheVariants.{Call, Spawn}
use Rattle.cilk_types.specs.declared.limits.TheConstants.{MAX_TICKS}
use Rattle.cilk_monoid.specs.declared.kind.MonoidKind.{MonoidKind}
use Rattle.cilk_program.specs.declared.ask.Ask as language
use Rattle.cilk_program.specs.declared.ask.Ask.TheVariants as asks
use Rattle.cilk_program.specs.declared.ask.Callee.{Callee}
use Rattle.cilk_program.specs.declared.ask.Callee.TheVariants as callees
use Rattle.cilk_program.specs.declared.syntax.Place.TheVariants as places
use Rattle.cilk_program.specs.declared.syntax.ReducerPlace.{ReducerPlace}
use Rattle.cilk_program.specs.declared.syntax.ReducerPlace.TheVariants as reducers
use Rattle.cilk_program.specs.Behaviour.{OpenAsk, frame_asks}
use Rattle.cilk_program.specs.Syntax.{Source, function_at, main_of}
use Rattle.std.specs.Prelude.{pos, ◌-ℤ◌, if◌then◌else◌}
use Rattle.std.specs.Ordering.{int_eq}
use Rattle.cilk_program.specs.Order.{writings, creations, opening_asks, Stage, Fresh, Due, Going, Resuming, Synced, Closing, opened, goes_on, closes, follows}
use Rattle.cilk_program.proofs.Legal.{Rest, after, unless_fault, IsLegal, fresh_fine}
use Rattle.cilk_determinacy.specs.Machine.{Frame, Frames, State, started, deed_of, mark_of, begun, after_deed, Makes, Steps}
use Rattle.cilk_determinacy.specs.Monoids.{numbers_of}
use Rattle.cilk_determinacy.specs.Progress.{Answers}
use Rattle.cilk_determinacy.specs.Runs.{Name, same_name, Cell, Instance, Ask, Read, Write, Invoke, Sync, End, Pass, Fail, Begin, Resume, Create, Update, Set, Value, Print, Event, Reads, Writes, Syncs, Ends, Passes, Deed, Does, Invokes, ask_of}
use Rattle.cilk_determinacy.specs.FrameEnvMachine.{answer_of, answers_of, costs, has_ended, is_end, named_ask, next}
use Rattle.cilk_determinacy.specs.Reducers.{View, monoid_of}
use Rattle.cilk_determinacy.specs.Steps.{Next, IsFirst, OneStep}
use Rattle.cilk_determinacy.specs.FrameEnvs.{FrameEnv, first_env}
use Rattle.cilk_scheduler.specs.Schedulers.{is_resuming}
use Rattle.cilk_scheduler.specs.Histories.{IsAnswered, AreAnswered, DidAsAsked, BeginsAndResumes, FramesDoAsAsked}
use Rattle.cilk_scheduler.proofs.Carried.{resuming_event, resuming_child}
use Rattle.cilk_scheduler.proofs.Within.{no_fault_then}

-- ---- kinds of requests

abbrev begins : language.Ask → Bool
begins asks.Begin = true
begins k = false

abbrev resumes : language.Ask → Bool
resumes asks.Resume = true
resumes k = false

abbrev starts : language.Ask → Bool
starts (asks.Invoke how callee) = true
starts k = false

abbrev ends : language.Ask → Bool
ends (asks.End v) = true
ends k = false

-- a write or a creation
abbrev IsOpening : language.Ask → Type 0
IsOpening (asks.Write x v) = Unit {0}
IsOpening (asks.Create r) = Unit {0}
IsOpening k = ⊥

opening_plain : (k : language.Ask) → IsOpening k → (begins k ≡ false) × (resumes k ≡ false) × (starts k ≡ false) × (ends k ≡ false)
opening_plain (asks.Write x v) h = (refl, refl, refl, refl)
opening_plain (asks.Create r) h = (refl, refl, refl, refl)
opening_plain asks.Begin h = absurd h
opening_plain (asks.Read x) h = absurd h
opening_plain (asks.Update r v) h = absurd h
opening_plain (asks.Set r v) h = absurd h
opening_plain (asks.Value r) h = absurd h
opening_plain (asks.Print v) h = absurd h
opening_plain (asks.Invoke how callee) h = absurd h
opening_plain asks.Resume h = absurd h
opening_plain asks.Sync h = absurd h
opening_plain (asks.Result v) h = absurd h
opening_plain (asks.End v) h = absurd h
opening_plain (asks.Fault f) h = absurd h

abbrev AreOpenings : List language.Ask → Type 0
AreOpenings [] = Unit {0}
AreOpenings (k ∷ ks) = IsOpening k × AreOpenings ks

both_open : (ks js : List language.Ask) → AreOpenings ks → AreOpenings js → AreOpenings (ks ++ js)
both_open [] js h g = g
both_open (k ∷ ks) js h g = (h.0, both_open ks js h.1 g)

writings_open : (n : ℕ) (vs : List ℤ) → AreOpenings (writings n vs)
writings_open n [] = tt
writings_open n (v ∷ vs) = (tt, writings_open (suc n) vs)

creations_open : (place : ℕ → ReducerPlace) (n : ℕ) (ks : List MonoidKind) → AreOpenings (creations place n ks)
creations_open place n [] = tt
creations_open place n (k ∷ ks) = (tt, creations_open place (suc n) ks)

if_open : (t : Bool) (k : language.Ask) → IsOpening k → AreOpenings (if t then k ∷ [] else [])
if_open true k h = (h, tt)
if_open false k h = tt

opening_sound : (p : Source) (callee : Callee) → AreOpenings (opening_asks p callee)
opening_sound p callees.Root =
    let f = main_of p in
    both_open (creations reducers.Global 0 p.reducers) (creations (reducers.Own 0) 0 f.reducers) (creations_open reducers.Global 0 p.reducers) (creations_open (reducers.Own 0) 0 f.reducers)
opening_sound p (callees.Function c) =
    let f = function_at p c.function in
    both_open (writings 0 c.words) (creations (reducers.Own 0) 0 f.reducers) (writings_open 0 c.words) (creations_open (reducers.Own 0) 0 f.reducers)
opening_sound p (callees.Loop l) = if_open (int_eq (l.high -ℤ l.low) (pos 1)) (asks.Write (places.Local 0 0) l.low) tt

-- ---- stages

abbrev fresh : Stage → Bool
fresh (Fresh due) = true
fresh s = false

abbrev resuming : Stage → Bool
resuming (Resuming spawned) = true
resuming s = false

abbrev IsSound : Stage → Type 0
IsSound (Fresh due) = AreOpenings due
IsSound (Due first due) = IsOpening first × AreOpenings due
IsSound s = Unit {0}

-- the frame continues at a stage that has this property
abbrev Turned : language.Ask → (Stage → Type 0) → Type 0
Turned k go = (s : Stage) × go s × IsSound s × (resuming s ≡ starts k) × (fresh s ≡ false) × (ends k ≡ false)

opened_turned : (k : language.Ask) (due : List language.Ask) (go : Stage → Type 0) → AreOpenings due → starts k ≡ false → ends k ≡ false → go (opened due) → Turned k go
opened_turned k [] go ok q e h = (Going false, h, tt, sym q, refl, e)
opened_turned k (j ∷ due) go ok q e h = (Due j due, h, ok, sym q, refl, e)

goes_turned : (w : Bool) (k : language.Ask) (go : Stage → Type 0) → goes_on w k go → Turned k go
goes_turned w asks.Begin go h = absurd h
goes_turned w (asks.Read x) go h = (Going w, h, tt, refl, refl, refl)
goes_turned w (asks.Write x v) go h = (Going w, h, tt, refl, refl, refl)
goes_turned w (asks.Create r) go h = absurd h
goes_turned w (asks.Update r v) go h = (Going w, h, tt, refl, refl, refl)
goes_turned w (asks.Set r v) go h = (Going w, h, tt, refl, refl, refl)
goes_turned w (asks.Value r) go h = (Going w, h, tt, refl, refl, refl)
goes_turned w (asks.Print v) go h = (Going w, h, tt, refl, refl, refl)
goes_turned w (asks.Invoke Call callee) go h = (Resuming w, h, tt, refl, refl, refl)
goes_turned w (asks.Invoke Spawn callee) go h = (Resuming true, h, tt, refl, refl, refl)
goes_turned w asks.Resume go h = absurd h
goes_turned w asks.Sync go h = (Synced, h, tt, refl, refl, refl)
goes_turned w (asks.Result v) go h = absurd h
goes_turned w (asks.End v) go h = absurd h
goes_turned w (asks.Fault f) go h = absurd h

closes_turned : (k : language.Ask) (go : Stage → Type 0) → closes k go → (ends k ≡ true) ⊎ Turned k go
closes_turned asks.Begin go h = absurd h
closes_turned (asks.Read x) go h = inr (Going false, h, tt, refl, refl, refl)
closes_turned (asks.Write x v) go h = inr (Going false, h, tt, refl, refl, refl)
closes_turned (asks.Create r) go h = absurd h
closes_turned (asks.Update r v) go h = inr (Going false, h, tt, refl, refl, refl)
closes_turned (asks.Set r v) go h = inr (Going false, h, tt, refl, refl, refl)
closes_turned (asks.Value r) go h = inr (Going false, h, tt, refl, refl, refl)
closes_turned (asks.Print v) go h = inr (Going false, h, tt, refl, refl, refl)
closes_turned (asks.Invoke Call callee) go h = inr (Resuming false, h, tt, refl, refl, refl)
closes_turned (asks.Invoke Spawn callee) go h = inr (Resuming true, h, tt, refl, refl, refl)
closes_turned asks.Resume go h = absurd h
closes_turned asks.Sync go h = inr (Synced, h, tt, refl, refl, refl)
closes_turned (asks.Result v) go h = inr (Closing, h, tt, refl, refl, refl)
closes_turned (asks.End v) go h = inl refl
closes_turned (asks.Fault f) go h = absurd h

-- which stage comes next
turn : (s : Stage) (k : language.Ask) (go : Stage → Type 0) → IsSound s → follows s k go → (ends k ≡ true) ⊎ Turned k go
turn (Fresh due) k go ok h = inr (opened_turned k due go ok (ap starts h.0) (ap ends h.0) h.1)
turn (Due first due) k go ok h =
    let plain = opening_plain first ok.0 in
    inr (opened_turned k due go ok.1 (ap starts h.0 ∙ plain.2) (ap ends h.0 ∙ plain.3) h.1)
turn (Going w) k go ok h = inr (goes_turned w k go h)
turn (Resuming w) k go ok h = inr (Going w, h.1, tt, sym (ap starts h.0), refl, ap ends h.0)
turn Synced k go ok h = closes_turned k go h
turn Closing k go ok h = inl (ap ends h.1)

goes_at : (w : Bool) (k : language.Ask) (go : Stage → Type 0) → goes_on w k go → (resumes k ≡ false) × (begins k ≡ false)
goes_at w asks.Begin go h = absurd h
goes_at w (asks.Read x) go h = (refl, refl)
goes_at w (asks.Write x v) go h = (refl, refl)
goes_at w (asks.Create r) go h = (refl, refl)
goes_at w (asks.Update r v) go h = (refl, refl)
goes_at w (asks.Set r v) go h = (refl, refl)
goes_at w (asks.Value r) go h = (refl, refl)
goes_at w (asks.Print v) go h = (refl, refl)
goes_at w (asks.Invoke Call callee) go h = (refl, refl)
goes_at w (asks.Invoke Spawn callee) go h = (refl, refl)
goes_at w asks.Resume go h = absurd h
goes_at w asks.Sync go h = (refl, refl)
goes_at w (asks.Result v) go h = (refl, refl)
goes_at w (asks.End v) go h = (refl, refl)
goes_at w (asks.Fault f) go h = (refl, refl)

closes_at : (k : language.Ask) (go : Stage → Type 0) → closes k go → (resumes k ≡ false) × (begins k ≡ false)
closes_at asks.Begin go h = absurd h
closes_at (asks.Read x) go h = (refl, refl)
closes_at (asks.Write x v) go h = (refl, refl)
closes_at (asks.Create r) go h = (refl, refl)
closes_at (asks.Update r v) go h = (refl, refl)
closes_at (asks.Set r v) go h = (refl, refl)
closes_at (asks.Value r) go h = (refl, refl)
closes_at (asks.Print v) go h = (refl, refl)
closes_at (asks.Invoke Call callee) go h = (refl, refl)
closes_at (asks.Invoke Spawn callee) go h = (refl, refl)
closes_at asks.Resume go h = absurd h
closes_at asks.Sync go h = (refl, refl)
closes_at (asks.Result v) go h = (refl, refl)
closes_at (asks.End v) go h = (refl, refl)
closes_at (asks.Fault f) go h = (refl, refl)

-- the requests that may come at a stage
at_stage : (s : Stage) (k : language.Ask) (go : Stage → Type 0) → IsSound s → follows s k go → (resumes k ≡ resuming s) × (begins k ≡ fresh s)
at_stage (Fresh due) k go ok h = (ap resumes h.0, ap begins h.0)
at_stage (Due first due) k go ok h = let plain = opening_plain first ok.0 in (ap resumes h.0 ∙ plain.1, ap begins h.0 ∙ plain.0)
at_stage (Going w) k go ok h = goes_at w k go h
at_stage (Resuming w) k go ok h = (ap resumes h.0, ap begins h.0)
at_stage Synced k go ok h = closes_at k go h
at_stage Closing k go ok h = (ap resumes h.1, ap begins h.1)

-- ---- asks by names

abbrev named_begins : {W : Type 0} → Ask W → Bool
named_begins (Pass Begin) = true
named_begins a = false

abbrev named_resumes : {W : Type 0} → Ask W → Bool
named_resumes (Pass Resume) = true
named_resumes a = false

abbrev named_starts : {W : Type 0} → Ask W → Bool
named_starts (Invoke how w) = true
named_starts a = false

abbrev named_ends : {W : Type 0} → Ask W → Bool
named_ends (End v gone) = true
named_ends a = false

abbrev named_fails : {W : Type 0} → Ask W → Bool
named_fails (Fail f) = true
named_fails a = false

abbrev starts_child : Deed FrameEnv → Bool
starts_child (Does e) = false
starts_child (Invokes how w) = true

event_plain : (e : Event) → (named_starts (ask_of {W = FrameEnv} e) ≡ false) × (named_ends (ask_of {W = FrameEnv} e) ≡ is_end (Does e)) × (named_fails (ask_of {W = FrameEnv} e) ≡ false)
event_plain (Reads c v) = (refl, refl, refl)
event_plain (Writes c v) = (refl, refl, refl)
event_plain Syncs = (refl, refl, refl)
event_plain (Ends v gone) = (refl, refl, refl)
event_plain (Passes m) = (refl, refl, refl)

-- a deed that answers a request is of its kind
deed_marks : (d : Deed FrameEnv) (a : Ask FrameEnv) → Answers d a → (starts_child d ≡ named_starts a) × (is_end d ≡ named_ends a) × (named_fails a ≡ false)
deed_marks (Does e) a h =
    let plain = event_plain e in
    (sym plain.0 ∙ ap named_starts (sym h), sym plain.1 ∙ ap named_ends (sym h), ap named_fails h ∙ plain.2)
deed_marks (Invokes how w) a h = (ap named_starts (sym h), ap named_ends (sym h), ap named_fails h)

module _ (p : Source) (w : FrameEnv) (j : ℕ) where
  -- by names a request is of its kind
  ask_marks : (k : language.Ask) → (named_starts (named_ask p w j k) ≡ starts k) × (named_ends (named_ask p w j k) ≡ ends k) × (named_begins (named_ask p w j k) ≡ begins k) × (named_resumes (named_ask p w j k) ≡ resumes k)
  ask_marks asks.Begin = (refl, refl, refl, refl)
  ask_marks (asks.Read x) = (refl, refl, refl, refl)
  ask_marks (asks.Write x v) = (refl, refl, refl, refl)
  ask_marks (asks.Create r) = (refl, refl, refl, refl)
  ask_marks (asks.Update r v) = (refl, refl, refl, refl)
  ask_marks (asks.Set r v) = (refl, refl, refl, refl)
  ask_marks (asks.Value r) = (refl, refl, refl, refl)
  ask_marks (asks.Print v) = (refl, refl, refl, refl)
  ask_marks (asks.Invoke how callee) = (refl, refl, refl, refl)
  ask_marks asks.Resume = (refl, refl, refl, refl)
  ask_marks asks.Sync = (refl, refl, refl, refl)
  ask_marks (asks.Result v) = (refl, refl, refl, refl)
  ask_marks (asks.End v) = (refl, refl, refl, refl)
  ask_marks (asks.Fault f) = (refl, refl, refl, refl)

  -- no fault by name, so this follows
  told : (k : language.Ask) (P : Type 0) → ((f : Fault) → named_ask p w j k ≡ Fail f → ⊥) → unless_fault k P → P
  told asks.Begin P fine h = h
  told (asks.Read x) P fine h = h
  told (asks.Write x v) P fine h = h
  told (asks.Create r) P fine h = h
  told (asks.Update r v) P fine h = h
  told (asks.Set r v) P fine h = h
  told (asks.Value r) P fine h = h
  told (asks.Print v) P fine h = h
  told (asks.Invoke how callee) P fine h = h
  told asks.Resume P fine h = h
  told asks.Sync P fine h = h
  told (asks.Result v) P fine h = h
  told (asks.End v) P fine h = h
  told (asks.Fault f) P fine h = absurd (fine f refl)

  named_begin : (k : language.Ask) → begins k ≡ true → named_ask p w j k ≡ Pass Begin
  named_begin asks.Begin h = refl
  named_begin (asks.Read x) h = absurd (true≢false (sym h))
  named_begin (asks.Write x v) h = absurd (true≢false (sym h))
  named_begin (asks.Create r) h = absurd (true≢false (sym h))
  named_begin (asks.Update r v) h = absurd (true≢false (sym h))
  named_begin (asks.Set r v) h = absurd (true≢false (sym h))
  named_begin (asks.Value r) h = absurd (true≢false (sym h))
  named_begin (asks.Print v) h = absurd (true≢false (sym h))
  named_begin (asks.Invoke how callee) h = absurd (true≢false (sym h))
  named_begin asks.Resume h = absurd (true≢false (sym h))
  named_begin asks.Sync h = absurd (true≢false (sym h))
  named_begin (asks.Result v) h = absurd (true≢false (sym h))
  named_begin (asks.End v) h = absurd (true≢false (sym h))
  named_begin (asks.Fault f) h = absurd (true≢false (sym h))

  named_resume : (k : language.Ask) → resumes k ≡ true → named_ask p w j k ≡ Pass Resume
  named_resume asks.Resume h = refl
  named_resume asks.Begin h = absurd (true≢false (sym h))
  named_resume (asks.Read x) h = absurd (true≢false (sym h))
  named_resume (asks.Write x v) h = absurd (true≢false (sym h))
  named_resume (asks.Create r) h = absurd (true≢false (sym h))
  named_resume (asks.Update r v) h = absurd (true≢false (sym h))
  named_resume (asks.Set r v) h = absurd (true≢false (sym h))
  named_resume (asks.Value r) h = absurd (true≢false (sym h))
  named_resume (asks.Print v) h = absurd (true≢false (sym h))
  named_resume (asks.Invoke how callee) h = absurd (true≢false (sym h))
  named_resume asks.Sync h = absurd (true≢false (sym h))
  named_resume (asks.Result v) h = absurd (true≢false (sym h))
  named_resume (asks.End v) h = absurd (true≢false (sym h))
  named_resume (asks.Fault f) h = absurd (true≢false (sym h))

-- ---- histories

abbrev is_empty : List (Deed FrameEnv) → Bool
is_empty [] = true
is_empty (d ∷ ds) = false

one_more : (ds : List (Deed FrameEnv)) (d : Deed FrameEnv) → is_empty (ds ++ d ∷ []) ≡ false
one_more [] d = refl
one_more (x ∷ ds) d = refl

empty_is : (ds : List (Deed FrameEnv)) → is_empty ds ≡ true → ds ≡ []
empty_is [] h = refl
empty_is (d ∷ ds) h = absurd (true≢false (sym h))

resuming_more : (ds : List (Deed FrameEnv)) (d : Deed FrameEnv) → is_resuming (ds ++ d ∷ []) ≡ starts_child d
resuming_more ds (Does e) = resuming_event ds e
resuming_more ds (Invokes how w) = resuming_child ds how w

either_end : (b c : Bool) → b ≡ false → c ≡ false → cond b true c ≡ false
either_end true c h g = absurd (true≢false h)
either_end false c h g = g

tail_goes : (b c : Bool) → cond b true c ≡ false → (b ≡ false) × (c ≡ false)
tail_goes true c h = absurd (true≢false h)
tail_goes false c h = (refl, h)

still_going : (ds : List (Deed FrameEnv)) (d : Deed FrameEnv) → has_ended ds ≡ false → is_end d ≡ false → has_ended (ds ++ d ∷ []) ≡ false
still_going [] d h g = either_end (is_end d) false g refl
still_going (x ∷ ds) d h g = let t = tail_goes (is_end x) (has_ended ds) h in either_end (is_end x) (has_ended (ds ++ d ∷ [])) t.0 (still_going ds d t.1 g)

some_end : (b c : Bool) → c ≡ true → cond b true c ≡ true
some_end true c h = refl
some_end false c h = h

over_with : (ds : List (Deed FrameEnv)) (d : Deed FrameEnv) (more : List (Deed FrameEnv)) → is_end d ≡ true → has_ended (ds ++ d ∷ more) ≡ true
over_with [] d more h = rw h refl
over_with (x ∷ ds) d more h = some_end (is_end x) (has_ended (ds ++ d ∷ more)) (over_with ds d more h)

abbrev long : List (Deed FrameEnv) → ℕ
long [] = zero
long (d ∷ ds) = suc (long ds)

module _ (p : Source) (inputs : List ℤ) (w : FrameEnv) where
  -- the asks after these deeds are those of what is left
  abbrev IsLeft : List (Deed FrameEnv) → Rest → Type 0
  IsLeft past c = (answers : List ℤ) (start : ℕ) → frame_asks p inputs w.callee (answers_of past ++ answers) start ≡ c answers start

  -- the stage that the frame has come to by these deeds
  record StandsAt (n : ℕ) (past : List (Deed FrameEnv)) : Type 0 where
    stage : Stage
    rest : Rest
    is_left : IsLeft past rest
    legal : IsLegal MAX_TICKS stage rest n
    sound : IsSound stage
    resumes_so : resuming stage ≡ is_resuming past
    begins_so : fresh stage ≡ is_empty past

  left_after : (past : List (Deed FrameEnv)) (d : Deed FrameEnv) (c : Rest) → IsLeft past c → IsLeft (past ++ d ∷ []) (after (answer_of d) c)
  left_after past d c h = λ answers start.
      ap (λ l. frame_asks p inputs w.callee (l ++ answers) start) (map-append answer_of past (d ∷ []))
      ∙ ap (λ l. frame_asks p inputs w.callee l start) (append_assoc (answers_of past) (answer_of d ∷ []) answers)
      ∙ h (answer_of d ∷ answers) start

  abbrev asked : Rest → language.Ask
  asked c = let q = c [] MAX_TICKS in q.ask

  -- the next request, where the frame continues
  next_is : (past : List (Deed FrameEnv)) (c : Rest) → IsLeft past c → has_ended past ≡ false → next p inputs w past ≡ Some (named_ask p w (suc (started past)) (asked c))
  next_is past c h going =
      going_next (has_ended past) going
      ∙ ap (λ (q : OpenAsk). Some (named_ask p w (suc (started past)) q.ask)) (sym (ap (λ l. frame_asks p inputs w.callee l MAX_TICKS) (append-nil (answers_of past))) ∙ h [] MAX_TICKS)
    where
      going_next : (b : Bool) → b ≡ false → cond b None (Some (named_ask p w (suc (started past)) (let q = frame_asks p inputs w.callee (answers_of past) MAX_TICKS in q.ask))) ≡ Some (named_ask p w (suc (started past)) (let q = frame_asks p inputs w.callee (answers_of past) MAX_TICKS in q.ask))
      going_next true q = absurd (true≢false q)
      going_next false q = refl

  walk : (past rest all : List (Deed FrameEnv)) → past ++ rest ≡ all → has_ended past ≡ false → StandsAt (suc (long rest)) past → AreAnswered p inputs w past rest → (has_ended all ≡ true) ⊎ StandsAt 1 all
  walk past [] all e going h told_so = inr (subst (λ ds. StandsAt 1 ds) (sym (append-nil past) ∙ e) h)
  walk past (d ∷ ds) all e going h told_so = ⊎_elim over (λ t. on t (λ e' g c. walk (past ++ d ∷ []) ds all e' g c told_so.1)) (turn h.stage k go h.sound here)
    where
      k : language.Ask
      k = asked h.rest

      go : Stage → Type 0
      go s = (a : ℤ) → IsLegal MAX_TICKS s (after a h.rest) (suc (long ds))

      answers : Answers d (named_ask p w (suc (started past)) k)
      answers =
          let it = told_so.0 in
          let q : Some it.0 ≡ Some (named_ask p w (suc (started past)) k) = sym it.1 ∙ next_is past h.rest h.is_left going in
          let same : it.0 ≡ named_ask p w (suc (started past)) k = cc in
          subst (λ a. Answers d a) same it.2

      marks : (starts_child d ≡ starts k) × (is_end d ≡ ends k)
      marks = let m = deed_marks d (named_ask p w (suc (started past)) k) answers in let n = ask_marks p w (suc (started past)) k in (m.0 ∙ n.0, m.1 ∙ n.1)

      never : (f : Fault) → named_ask p w (suc (started past)) k ≡ Fail f → ⊥
      never f q = let m = deed_marks d (named_ask p w (suc (started past)) k) answers in true≢false (sym (ap named_fails q) ∙ m.2)

      here : follows h.stage k go
      here = told p w (suc (started past)) k (follows h.stage k go) never (h.legal MAX_TICKS (omega arith))

      over : ends k ≡ true → (has_ended all ≡ true) ⊎ StandsAt 1 all
      over q = inl (subst (λ l. has_ended l ≡ true) e (over_with past d ds (marks.1 ∙ q)))

      on : Turned k go → ((past ++ d ∷ []) ++ ds ≡ all → has_ended (past ++ d ∷ []) ≡ false → StandsAt (suc (long ds)) (past ++ d ∷ []) → (has_ended all ≡ true) ⊎ StandsAt 1 all) → (has_ended all ≡ true) ⊎ StandsAt 1 all
      on t again =
          again (append_assoc past (d ∷ []) ds ∙ e) (still_going past d going (marks.1 ∙ t.5)) (record {
            stage = t.0;
            rest = after (answer_of d) h.rest;
            is_left = left_after past d h.rest h.is_left;
            legal = t.1 (answer_of d);
            sound = t.2;
            resumes_so = t.3 ∙ sym marks.0 ∙ sym (resuming_more past d);
            begins_so = t.4 ∙ sym (one_more past d);
          })

  has_come : (ds : List (Deed FrameEnv)) → AreAnswered p inputs w [] ds → (has_ended ds ≡ true) ⊎ StandsAt 1 ds
  has_come ds h =
      walk [] ds ds refl refl (record {
        stage = Fresh (opening_asks p w.callee);
        rest = frame_asks p inputs w.callee;
        is_left = λ answers start. refl;
        legal = fresh_fine MAX_TICKS p inputs w.callee (suc (long ds));
        sound = opening_sound p w.callee;
        resumes_so = refl;
        begins_so = refl;
      }) h

  ended_next : (ds : List (Deed FrameEnv)) (a : Ask FrameEnv) → has_ended ds ≡ true → next p inputs w ds ≡ Some a → ⊥
  ended_next ds a h q = by (has_ended ds) h q
    where
      by : (b : Bool) → b ≡ true → cond b None (Some (named_ask p w (suc (started ds)) (let q = frame_asks p inputs w.callee (answers_of ds) MAX_TICKS in q.ask))) ≡ Some a → ⊥
      by true h q = let no : None ≡ Some a = q in cc
      by false h q = true≢false (sym h)

  -- it begins first, and resumes after a child
  in_order : (ds : List (Deed FrameEnv)) (a : Ask FrameEnv) → AreAnswered p inputs w [] ds → next p inputs w ds ≡ Some a → ((f : Fault) → a ≡ Fail f → ⊥) → BeginsAndResumes ds a
  in_order ds a h q fine = going (has_ended ds) refl (has_come ds h)
    where
      at : has_ended ds ≡ false → StandsAt 1 ds → BeginsAndResumes ds a
      at goes c =
          let k = asked c.rest in
          let i = suc (started ds) in
          let z : Some a ≡ Some (named_ask p w i k) = sym q ∙ next_is ds c.rest c.is_left goes in
          let same : a ≡ named_ask p w i k = cc in
          let here = told p w i k (follows c.stage k (λ s. (v : ℤ) → IsLegal MAX_TICKS s (after v c.rest) 0)) (λ f e. fine f (same ∙ e)) (c.legal MAX_TICKS (omega arith)) in
          let is = at_stage c.stage k (λ s. (v : ℤ) → IsLegal MAX_TICKS s (after v c.rest) 0) c.sound here in
          let m = ask_marks p w i k in
          record {
            begins = λ e. empty_is ds (sym c.begins_so ∙ sym is.1 ∙ sym m.2 ∙ ap named_begins (sym same ∙ e));
            begins_there = λ e. same ∙ named_begin p w i k (is.1 ∙ c.begins_so ∙ ap is_empty e);
            resumes = λ e. sym c.resumes_so ∙ sym is.0 ∙ sym m.3 ∙ ap named_resumes (sym same ∙ e);
            resumes_there = λ e. same ∙ named_resume p w i k (is.0 ∙ c.resumes_so ∙ e);
          }

      going : (b : Bool) → has_ended ds ≡ b → (has_ended ds ≡ true) ⊎ StandsAt 1 ds → BeginsAndResumes ds a
      going true e o = absurd (ended_next ds a e q)
      going false e (inl over) = absurd (true≢false (sym over ∙ e))
      going false e (inr c) = at e c

  -- one deed more
  answered_more : (past ds : List (Deed FrameEnv)) (d : Deed FrameEnv) → AreAnswered p inputs w past ds → IsAnswered p inputs w (past ++ ds) d → AreAnswered p inputs w past (ds ++ d ∷ [])
  answered_more past [] d h g = (subst (λ l. IsAnswered p inputs w l d) (append-nil past) g, tt)
  answered_more past (x ∷ ds) d h g = (h.0, answered_more (past ++ x ∷ []) ds d h.1 (subst (λ l. IsAnswered p inputs w l d) (sym (append_assoc past (x ∷ []) ds)) g))

-- ---- steps

marked : {W : Type 0} (number : Instance → ℤ) (a : _) → ask_of {W = W} (Passes (mark_of number a)) ≡ Pass a
marked number Begin = refl
marked number Resume = refl
marked number (Create i) = refl
marked number (Update i x) = refl
marked number (Set i x) = refl
marked number (Value i) = refl
marked number (Print x) = refl

deed_answers : (memory : Cell → ℤ) (number : Instance → ℤ) (a : Ask FrameEnv) → ((f : Fault) → a ≡ Fail f → ⊥) → Answers (deed_of memory number a) a
deed_answers memory number (Read c) fine = refl
deed_answers memory number (Write c v) fine = refl
deed_answers memory number (Invoke k w) fine = refl
deed_answers memory number Sync fine = refl
deed_answers memory number (End v gone) fine = refl
deed_answers memory number (Pass a) fine = sym (marked number a)
deed_answers memory number (Fail f) fine = absurd (fine f refl)

one_of : (P : Frame FrameEnv → Type 0) (b : Bool) (x : Frame FrameEnv) (y : Option (Frame FrameEnv)) (g : Frame FrameEnv) → cond b (Some x) y ≡ Some g → P x → (y ≡ Some g → P g) → P g
one_of P true x y g q h later = let same : x ≡ g = (let z : Some x ≡ Some g = q in cc) in subst P same h
one_of P false x y g q h later = later q

module _ (p : Source) (inputs : List ℤ) where
  abbrev IsRight : Frame FrameEnv → Type 0
  IsRight f = AreAnswered p inputs f.what [] f.deeds

  opens_so : (s : State FrameEnv View) → IsFirst p inputs s → DidAsAsked p inputs s
  opens_so s o [] f q =
      let z : Some (begun (first_env p)) ≡ Some f = sym (o.0 []) ∙ q in
      let same : begun (first_env p) ≡ f = cc in
      subst IsRight same tt
  opens_so s o (j ∷ n) f q = let no : None ≡ Some f = sym (o.0 (j ∷ n)) ∙ q in let z : ⊥ = cc in absurd z

  after_right : (frames : Frames FrameEnv) (n : Name) (f : Frame FrameEnv) (d : Deed FrameEnv) → ((m : Name) (g : Frame FrameEnv) → frames m ≡ Some g → IsRight g) → IsRight (record f { deeds = f.deeds ++ d ∷ [] })
      → (m : Name) (g : Frame FrameEnv) → after_deed frames n f d m ≡ Some g → IsRight g
  after_right frames n f (Does e) old new m g q = one_of IsRight (same_name n m) (record f { deeds = f.deeds ++ Does e ∷ [] }) (frames m) g q new (old m g)
  after_right frames n f (Invokes how w) old new m g q =
      one_of IsRight (same_name (n ++ suc (started f.deeds) ∷ []) m) (begun w) (cond (same_name n m) (Some (record f { deeds = f.deeds ++ Invokes how w ∷ [] })) (frames m)) g q tt
      (λ r. one_of IsRight (same_name n m) (record f { deeds = f.deeds ++ Invokes how w ∷ [] }) (frames m) g r new (old m g))

  keeps_so : (s s' : State FrameEnv View) (n : Name) → DidAsAsked p inputs s → OneStep p inputs s n s' → DidAsAsked p inputs s'
  keeps_so s s' n h step = ⊎_elim made (λ o. ⊎_elim (λ t. by t.frames) (λ t. by (ap (λ (z : State FrameEnv View). z.frames) t.after)) o) step.1
    where
      by : s'.frames ≡ s.frames → DidAsAsked p inputs s'
      by same m g q = h m g (sym (ap (λ (t : Frames FrameEnv). t m) same) ∙ q)

      made : Makes FrameEnv View monoid_of (Next p inputs) (costs p inputs) s n s' → DidAsAsked p inputs s'
      made t m g q =
          let f = t.frame in
          let d = deed_of s.memory (numbers_of monoid_of (s.piece n)) t.ask in
          let fine = no_fault_then (costs p inputs) s.totals f.what f.deeds t.ask t.within in
          let a = t.asking in
          after_right s.frames n f d h (answered_more p inputs f.what [] f.deeds d (h n f a.here) (t.ask, a.next, deed_answers s.memory (numbers_of monoid_of (s.piece n)) t.ask fine.0)) m g
          (sym (ap (λ (z : Frames FrameEnv). z m) t.frames) ∙ q)

  steps_so : (ns : List Name) (s s' : State FrameEnv View) → DidAsAsked p inputs s → Steps FrameEnv View monoid_of (Next p inputs) (costs p inputs) ns s s' → DidAsAsked p inputs s'
  steps_so [] s s' h e = subst (DidAsAsked p inputs) (sym e) h
  steps_so (n ∷ ns) s s' h (mid, one, rest) = steps_so ns mid s' (keeps_so s mid n h one) rest

  pub does_as_asked : FramesDoAsAsked p inputs
  does_as_asked = record {
    opens = opens_so;
    keeps = keeps_so;
    reached = λ ns s r. steps_so ns r.0 s (opens_so r.0 r.1) r.2;
    order = λ s n f a h here q fine. in_order p inputs f.what f.deeds a (h n f here) q fine;
  }
