-- A frame ends only where it has made a sync after each child that it started.
--
-- - `is_open`, `open_behind`: a child was started with no sync since;
-- - `turn`, `at_end`: which stage comes next, and where a frame may end;
-- - `walk`: the stage that a frame has come to by its deeds;
-- - `synced_before_end`: the lemma.
use Rattle.std.proofs.Common.{◌≡◌, ◌⊎◌, inl, inr, ⊎_elim, ℕ, zero, suc, ℤ, Bool, true, false, true≢false, cond, List, [], ◌∷◌, ◌++◌, Some, None, refl, sym, ap, ◌∙◌, subst, append-nil, append_assoc, arith}
use Rattle.std.proofs.lemmas.List.{map-append}
use Rattle.cilk_types.specs.declared.fault.Fault.{Fault}
use Rattle.cilk_types.specs.declared.invocation.Invocation.{Invocation}
use Rattle.cilk_types.specs.declared.invocation.Invocation.TheVariants.{Call, Spawn}
use Rattle.cilk_types.specs.declared.limits.TheConstants.{MAX_TICKS}
use Rattle.cilk_program.specs.declared.ask.Ask as language
use Rattle.cilk_program.specs.declared.ask.Ask.TheVariants as asks
use Rattle.cilk_program.specs.Behaviour.{OpenAsk, frame_asks}
use Rattle.cilk_program.specs.Syntax.{Source}
use Rattle.cilk_program.specs.Order.{opening_asks, Stage, Fresh, Due, Going, Resuming, Synced, Closing, opened, goes_on, closes, follows}
use Rattle.cilk_program.proofs.Closings.{IsOpening, IsSound, opened_sound, opening_asks_open}
use Rattle.cilk_program.proofs.Legal.{Rest, after, unless_fault, IsLegal, fresh_fine}
use Rattle.cilk_determinacy.specs.Machine.{started}
use Rattle.cilk_determinacy.specs.Progress.{Answers, HasNoSync}
use Rattle.cilk_determinacy.specs.Runs.{Instance, Ask, Read, Write, Invoke, Sync, End, Pass, Fail, Event, Reads, Writes, Syncs, Ends, Passes, Deed, Does, Invokes, ask_of}
use Rattle.cilk_determinacy.specs.FrameEnvMachine.{answer_of, answers_of, has_ended, is_end, named_ask, next}
use Rattle.cilk_determinacy.specs.FrameEnvs.{FrameEnv}
use Rattle.cilk_determinacy.proofs.Histories.{ended_more}
use Rattle.cilk_scheduler.specs.Histories.{AreAnswered}

-- ---- children with no sync since

abbrev opens_event : Bool → Event → Bool
opens_event t (Reads c v) = t
opens_event t (Writes c v) = t
opens_event t Syncs = false
opens_event t (Ends v gone) = t
opens_event t (Passes m) = t

abbrev opens_with : Bool → Deed FrameEnv → Bool
opens_with t (Does e) = opens_event t e
opens_with t (Invokes how w) = true

-- a child was started with no sync since
abbrev is_open : Bool → List (Deed FrameEnv) → Bool
is_open t [] = t
is_open t (d ∷ ds) = is_open (opens_with t d) ds

open_more : (t : Bool) (ds : List (Deed FrameEnv)) (d : Deed FrameEnv) → is_open t (ds ++ d ∷ []) ≡ opens_with (is_open t ds) d
open_more t [] d = refl
open_more t (x ∷ ds) d = open_more (opens_with t x) ds d

none_later : (d : Deed FrameEnv) (ds : List (Deed FrameEnv)) → HasNoSync (d ∷ ds) → HasNoSync ds
none_later d ds h before after e = h (d ∷ before) after (ap (λ l. d ∷ l) e)

stays_open : (ds : List (Deed FrameEnv)) → HasNoSync ds → is_open true ds ≡ true
stays_open [] h = refl
stays_open (Does (Reads c v) ∷ ds) h = stays_open ds (none_later (Does (Reads c v)) ds h)
stays_open (Does (Writes c v) ∷ ds) h = stays_open ds (none_later (Does (Writes c v)) ds h)
stays_open (Does Syncs ∷ ds) h = absurd (h [] ds refl)
stays_open (Does (Ends v gone) ∷ ds) h = stays_open ds (none_later (Does (Ends v gone)) ds h)
stays_open (Does (Passes m) ∷ ds) h = stays_open ds (none_later (Does (Passes m)) ds h)
stays_open (Invokes how w ∷ ds) h = stays_open ds (none_later (Invokes how w) ds h)

open_behind : (t : Bool) (before : List (Deed FrameEnv)) (how : Invocation) (what : FrameEnv) (after : List (Deed FrameEnv)) → HasNoSync after → is_open t (before ++ Invokes how what ∷ after) ≡ true
open_behind t [] how what after h = stays_open after h
open_behind t (d ∷ before) how what after h = open_behind (opens_with t d) before how what after h

-- ---- asks

abbrev opens_ask : Bool → language.Ask → Bool
opens_ask t asks.Sync = false
opens_ask t (asks.Invoke how callee) = true
opens_ask t k = t

abbrev ends : language.Ask → Bool
ends (asks.End v) = true
ends k = false

abbrev opens_named : Bool → Ask FrameEnv → Bool
opens_named t (Read c) = t
opens_named t (Write c v) = t
opens_named t (Invoke how w) = true
opens_named t Sync = false
opens_named t (End v gone) = t
opens_named t (Pass m) = t
opens_named t (Fail f) = t

abbrev ends_named : Ask FrameEnv → Bool
ends_named (End v gone) = true
ends_named a = false

abbrev fails : Ask FrameEnv → Bool
fails (Fail f) = true
fails a = false

event_marks : (t : Bool) (e : Event) → (opens_named t (ask_of {W = FrameEnv} e) ≡ opens_event t e) × (ends_named (ask_of {W = FrameEnv} e) ≡ is_end (Does e)) × (fails (ask_of {W = FrameEnv} e) ≡ false)
event_marks t (Reads c v) = (refl, refl, refl)
event_marks t (Writes c v) = (refl, refl, refl)
event_marks t Syncs = (refl, refl, refl)
event_marks t (Ends v gone) = (refl, refl, refl)
event_marks t (Passes m) = (refl, refl, refl)

-- a deed that answers a request is of its kind
deed_marks : (t : Bool) (d : Deed FrameEnv) (a : Ask FrameEnv) → Answers d a → (opens_with t d ≡ opens_named t a) × (is_end d ≡ ends_named a) × (fails a ≡ false)
deed_marks t (Does e) a h = let m = event_marks t e in (sym m.0 ∙ ap (opens_named t) (sym h), sym m.1 ∙ ap ends_named (sym h), ap fails h ∙ m.2)
deed_marks t (Invokes how w) a h = (ap (opens_named t) (sym h), ap ends_named (sym h), ap fails h)

module _ (p : Source) (w : FrameEnv) (j : ℕ) where
  ask_marks : (t : Bool) (k : language.Ask) → (opens_named t (named_ask p w j k) ≡ opens_ask t k) × (ends_named (named_ask p w j k) ≡ ends k)
  ask_marks t asks.Begin = (refl, refl)
  ask_marks t (asks.Read x) = (refl, refl)
  ask_marks t (asks.Write x v) = (refl, refl)
  ask_marks t (asks.Create r) = (refl, refl)
  ask_marks t (asks.Update r v) = (refl, refl)
  ask_marks t (asks.Set r v) = (refl, refl)
  ask_marks t (asks.Value r) = (refl, refl)
  ask_marks t (asks.Print v) = (refl, refl)
  ask_marks t (asks.Invoke how callee) = (refl, refl)
  ask_marks t asks.Resume = (refl, refl)
  ask_marks t asks.Sync = (refl, refl)
  ask_marks t (asks.Result v) = (refl, refl)
  ask_marks t (asks.End v) = (refl, refl)
  ask_marks t (asks.Fault f) = (refl, refl)

  -- no fault by name, so this follows
  told : (k : language.Ask) (P : Type 0) → ((f : Fault) → named_ask p w j k ≡ Fail f → ⊥) → unless_fault k P → P
  told asks.Begin P fine h = h
  told (asks.Read x) P fine h = h
  told (asks.Write x v) P fine h = h
  told (asks.Create r) P fine h = h
  told (asks.Update r v) P fine h = h
  told (asks.Set r v) P fine h = h
  told (asks.Value r) P fine h = h
  told (asks.Print v) P fine h = h
  told (asks.Invoke how callee) P fine h = h
  told asks.Resume P fine h = h
  told asks.Sync P fine h = h
  told (asks.Result v) P fine h = h
  told (asks.End v) P fine h = h
  told (asks.Fault f) P fine h = absurd (fine f refl)

-- ---- stages

-- children may have been started with no sync since
abbrev may_be_open : Stage → Bool
may_be_open (Going w) = true
may_be_open (Resuming w) = true
may_be_open s = false

-- the frame continues at a stage that has this property, with whether it may have started children
-- since its last sync
abbrev Turned : Stage → language.Ask → (Stage → Type 0) → Type 0
Turned from k go = (s : Stage) × go s × IsSound s × (ends k ≡ false) × ((t : Bool) → (t ≡ true → may_be_open from ≡ true) → opens_ask t k ≡ true → may_be_open s ≡ true)

opening_plain : (k : language.Ask) → IsOpening k → (ends k ≡ false) × ((t : Bool) → opens_ask t k ≡ t)
opening_plain (asks.Write x v) h = (refl, λ t. refl)
opening_plain (asks.Create r) h = (refl, λ t. refl)
opening_plain asks.Begin h = absurd h
opening_plain (asks.Read x) h = absurd h
opening_plain (asks.Update r v) h = absurd h
opening_plain (asks.Set r v) h = absurd h
opening_plain (asks.Value r) h = absurd h
opening_plain (asks.Print v) h = absurd h
opening_plain (asks.Invoke how callee) h = absurd h
opening_plain asks.Resume h = absurd h
opening_plain asks.Sync h = absurd h
opening_plain (asks.Result v) h = absurd h
opening_plain (asks.End v) h = absurd h
opening_plain (asks.Fault f) h = absurd h

goes_turned : (from : Stage) (w : Bool) (k : language.Ask) (go : Stage → Type 0) → goes_on w k go → Turned from k go
goes_turned from w asks.Begin go h = absurd h
goes_turned from w (asks.Read x) go h = (Going w, h, tt, refl, λ t q e. refl)
goes_turned from w (asks.Write x v) go h = (Going w, h, tt, refl, λ t q e. refl)
goes_turned from w (asks.Create r) go h = absurd h
goes_turned from w (asks.Update r v) go h = (Going w, h, tt, refl, λ t q e. refl)
goes_turned from w (asks.Set r v) go h = (Going w, h, tt, refl, λ t q e. refl)
goes_turned from w (asks.Value r) go h = (Going w, h, tt, refl, λ t q e. refl)
goes_turned from w (asks.Print v) go h = (Going w, h, tt, refl, λ t q e. refl)
goes_turned from w (asks.Invoke Call callee) go h = (Resuming w, h, tt, refl, λ t q e. refl)
goes_turned from w (asks.Invoke Spawn callee) go h = (Resuming true, h, tt, refl, λ t q e. refl)
goes_turned from w asks.Resume go h = absurd h
goes_turned from w asks.Sync go h = (Synced, h, tt, refl, λ t q e. e)
goes_turned from w (asks.Result v) go h = absurd h
goes_turned from w (asks.End v) go h = absurd h
goes_turned from w (asks.Fault f) go h = absurd h

closes_turned : (k : language.Ask) (go : Stage → Type 0) → closes k go → (ends k ≡ true) ⊎ Turned Synced k go
closes_turned asks.Begin go h = absurd h
closes_turned (asks.Read x) go h = inr (goes_turned Synced false (asks.Read x) go h)
closes_turned (asks.Write x v) go h = inr (goes_turned Synced false (asks.Write x v) go h)
closes_turned (asks.Create r) go h = absurd h
closes_turned (asks.Update r v) go h = inr (goes_turned Synced false (asks.Update r v) go h)
closes_turned (asks.Set r v) go h = inr (goes_turned Synced false (asks.Set r v) go h)
closes_turned (asks.Value r) go h = inr (goes_turned Synced false (asks.Value r) go h)
closes_turned (asks.Print v) go h = inr (goes_turned Synced false (asks.Print v) go h)
closes_turned (asks.Invoke how callee) go h = inr (goes_turned Synced false (asks.Invoke how callee) go h)
closes_turned asks.Resume go h = absurd h
closes_turned asks.Sync go h = inr (goes_turned Synced false asks.Sync go h)
closes_turned (asks.Result v) go h = inr (Closing, h, tt, refl, λ t q e. q e)
closes_turned (asks.End v) go h = inl refl
closes_turned (asks.Fault f) go h = absurd h

-- which stage comes next
turn : (s : Stage) (k : language.Ask) (go : Stage → Type 0) → IsSound s → follows s k go → (ends k ≡ true) ⊎ Turned s k go
turn (Fresh due) k go ok h = inr (opened due, h.1, opened_sound due ok, ap ends h.0, λ t q e. absurd (true≢false (sym (q (sym (ap (opens_ask t) h.0) ∙ e)))))
turn (Due first due) k go ok h =
    let plain = opening_plain first ok.0 in
    inr (opened due, h.1, opened_sound due ok.1, ap ends h.0 ∙ plain.0, λ t q e. absurd (true≢false (sym (q (sym (plain.1 t) ∙ sym (ap (opens_ask t) h.0) ∙ e)))))
turn (Going w) k go ok h = inr (goes_turned (Going w) w k go h)
turn (Resuming w) k go ok h = inr (Going w, h.1, tt, ap ends h.0, λ t q e. refl)
turn Synced k go ok h = closes_turned k go h
turn Closing k go ok h = inl (ap ends h.1)

ends_goes : (w : Bool) (k : language.Ask) (go : Stage → Type 0) → goes_on w k go → ends k ≡ false
ends_goes w k go h = let r = goes_turned Synced w k go h in r.3

-- where a frame may end
at_end : (s : Stage) (k : language.Ask) (go : Stage → Type 0) → follows s k go → ends k ≡ true → may_be_open s ≡ false
at_end (Fresh due) k go h e = refl
at_end (Due first due) k go h e = refl
at_end (Going w) k go h e = absurd (true≢false (sym e ∙ ends_goes w k go h))
at_end (Resuming w) k go h e = absurd (true≢false (sym e ∙ ap ends h.0))
at_end Synced k go h e = refl
at_end Closing k go h e = refl

-- ---- histories

still_going : (past : List (Deed FrameEnv)) (d : Deed FrameEnv) → has_ended past ≡ false → is_end d ≡ false → has_ended (past ++ d ∷ []) ≡ false
still_going past d h g = ended_more past d h ∙ g

some_end : (b c : Bool) → c ≡ true → cond b true c ≡ true
some_end true c h = refl
some_end false c h = h

over_with : (ds : List (Deed FrameEnv)) (d : Deed FrameEnv) (more : List (Deed FrameEnv)) → is_end d ≡ true → has_ended (ds ++ d ∷ more) ≡ true
over_with [] d more h = rw h refl
over_with (x ∷ ds) d more h = some_end (is_end x) (has_ended (ds ++ d ∷ more)) (over_with ds d more h)

abbrev long : List (Deed FrameEnv) → ℕ
long [] = zero
long (d ∷ ds) = suc (long ds)

module _ (p : Source) (inputs : List ℤ) (w : FrameEnv) where
  -- the asks after these deeds are those of what is left
  abbrev IsLeft : List (Deed FrameEnv) → Rest → Type 0
  IsLeft past c = (answers : List ℤ) (start : ℕ) → frame_asks p inputs w.callee (answers_of past ++ answers) start ≡ c answers start

  -- the stage that the frame has come to by these deeds
  record StandsAt (n : ℕ) (past : List (Deed FrameEnv)) : Type 0 where
    stage : Stage
    rest : Rest
    is_left : IsLeft past rest
    legal : IsLegal MAX_TICKS stage rest n
    sound : IsSound stage
    open_so : is_open false past ≡ true → may_be_open stage ≡ true

  left_after : (past : List (Deed FrameEnv)) (d : Deed FrameEnv) (c : Rest) → IsLeft past c → IsLeft (past ++ d ∷ []) (after (answer_of d) c)
  left_after past d c h = λ answers start.
      ap (λ l. frame_asks p inputs w.callee (l ++ answers) start) (map-append answer_of past (d ∷ []))
      ∙ ap (λ l. frame_asks p inputs w.callee l start) (append_assoc (answers_of past) (answer_of d ∷ []) answers)
      ∙ h (answer_of d ∷ answers) start

  abbrev asked : Rest → language.Ask
  asked c = let q = c [] MAX_TICKS in q.ask

  -- the next request, where the frame continues
  next_is : (past : List (Deed FrameEnv)) (c : Rest) → IsLeft past c → has_ended past ≡ false → next p inputs w past ≡ Some (named_ask p w (suc (started past)) (asked c))
  next_is past c h going =
      going_next (has_ended past) going
      ∙ ap (λ (q : OpenAsk). Some (named_ask p w (suc (started past)) q.ask)) (sym (ap (λ l. frame_asks p inputs w.callee l MAX_TICKS) (append-nil (answers_of past))) ∙ h [] MAX_TICKS)
    where
      going_next : (b : Bool) → b ≡ false → cond b None (Some (named_ask p w (suc (started past)) (let q = frame_asks p inputs w.callee (answers_of past) MAX_TICKS in q.ask))) ≡ Some (named_ask p w (suc (started past)) (let q = frame_asks p inputs w.callee (answers_of past) MAX_TICKS in q.ask))
      going_next true q = absurd (true≢false q)
      going_next false q = refl

  walk : (past rest all : List (Deed FrameEnv)) → past ++ rest ≡ all → has_ended past ≡ false → StandsAt (suc (long rest)) past → AreAnswered p inputs w past rest → (has_ended all ≡ true) ⊎ StandsAt 1 all
  walk past [] all e going h told_so = inr (subst (λ ds. StandsAt 1 ds) (sym (append-nil past) ∙ e) h)
  walk past (d ∷ ds) all e going h told_so = ⊎_elim over (λ t. on t (λ e' g c. walk (past ++ d ∷ []) ds all e' g c told_so.1)) (turn h.stage k go h.sound here)
    where
      k : language.Ask
      k = asked h.rest

      go : Stage → Type 0
      go s = (a : ℤ) → IsLegal MAX_TICKS s (after a h.rest) (suc (long ds))

      answers : Answers d (named_ask p w (suc (started past)) k)
      answers =
          let it = told_so.0 in
          let q : Some it.0 ≡ Some (named_ask p w (suc (started past)) k) = sym it.1 ∙ next_is past h.rest h.is_left going in
          let same : it.0 ≡ named_ask p w (suc (started past)) k = cc in
          subst (λ a. Answers d a) same it.2

      end_marks : is_end d ≡ ends k
      end_marks = let m = deed_marks false d (named_ask p w (suc (started past)) k) answers in let n = ask_marks p w (suc (started past)) false k in m.1 ∙ n.1

      open_marks : (t : Bool) → opens_with t d ≡ opens_ask t k
      open_marks t = let m = deed_marks t d (named_ask p w (suc (started past)) k) answers in let n = ask_marks p w (suc (started past)) t k in m.0 ∙ n.0

      never : (f : Fault) → named_ask p w (suc (started past)) k ≡ Fail f → ⊥
      never f q = let m = deed_marks false d (named_ask p w (suc (started past)) k) answers in true≢false (sym (ap fails q) ∙ m.2)

      here : follows h.stage k go
      here = told p w (suc (started past)) k (follows h.stage k go) never (h.legal MAX_TICKS (omega arith))

      over : ends k ≡ true → (has_ended all ≡ true) ⊎ StandsAt 1 all
      over q = inl (subst (λ l. has_ended l ≡ true) e (over_with past d ds (end_marks ∙ q)))

      on : Turned h.stage k go → ((past ++ d ∷ []) ++ ds ≡ all → has_ended (past ++ d ∷ []) ≡ false → StandsAt (suc (long ds)) (past ++ d ∷ []) → (has_ended all ≡ true) ⊎ StandsAt 1 all) → (has_ended all ≡ true) ⊎ StandsAt 1 all
      on t again =
          again (append_assoc past (d ∷ []) ds ∙ e) (still_going past d going (end_marks ∙ t.3)) (record {
            stage = t.0;
            rest = after (answer_of d) h.rest;
            is_left = left_after past d h.rest h.is_left;
            legal = t.1 (answer_of d);
            sound = t.2;
            open_so = λ q. t.4 (is_open false past) h.open_so (sym (open_marks (is_open false past)) ∙ sym (open_more false past d) ∙ q);
          })

  has_come : (ds : List (Deed FrameEnv)) → AreAnswered p inputs w [] ds → (has_ended ds ≡ true) ⊎ StandsAt 1 ds
  has_come ds h =
      walk [] ds ds refl refl (record {
        stage = Fresh (opening_asks p w.callee);
        rest = frame_asks p inputs w.callee;
        is_left = λ answers start. refl;
        legal = fresh_fine MAX_TICKS p inputs w.callee (suc (long ds));
        sound = opening_asks_open p w.callee;
        open_so = λ q. q;
      }) h

  -- where the next request is the end, a sync was made after each child
  pub synced_before_end : (ds : List (Deed FrameEnv)) (v : ℤ) (gone : List Instance) → AreAnswered p inputs w [] ds → has_ended ds ≡ false → next p inputs w ds ≡ Some (End v gone)
      → (before : List (Deed FrameEnv)) (how : Invocation) (what : FrameEnv) (after : List (Deed FrameEnv)) → ds ≡ before ++ Invokes how what ∷ after → HasNoSync after → ⊥
  synced_before_end ds v gone h going q before how what later e none = ⊎_elim (λ over. true≢false (sym over ∙ going)) at (has_come ds h)
    where
      at : StandsAt 1 ds → ⊥
      at c =
          let k = asked c.rest in
          let i = suc (started ds) in
          let z : Some (End v gone) ≡ Some (named_ask p w i k) = sym q ∙ next_is ds c.rest c.is_left going in
          let same : End v gone ≡ named_ask p w i k = cc in
          let go : Stage → Type 0 = (λ s. (a : ℤ) → IsLegal MAX_TICKS s (after a c.rest) 0) in
          let here = told p w i k (follows c.stage k go) (λ f x. true≢false (ap fails (sym x) ∙ ap fails (sym same))) (c.legal MAX_TICKS (omega arith)) in
          let m = ask_marks p w i false k in
          let done = at_end c.stage k go here (sym m.1 ∙ ap ends_named (sym same)) in
          true≢false (sym (c.open_so (ap (is_open false) e ∙ open_behind false before how what later none)) ∙ done)
