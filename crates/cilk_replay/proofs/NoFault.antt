-- A serial run by names that keeps the limits is the program's serial run, within any ticks that
-- are enough for all its frames together: `goes_along`.
--
-- - `asks_same`: a frame makes the same request with all ticks of a run as with any number of ticks
--   not less than it has used;
-- - `asking`, `at_act`, `at_child`: the position of a frame, by names and by numbers;
-- - `Goes`: the run by names from a point on, with what is left of each limit;
-- - `no_refusal`: the request at that point is not refused;
-- - `set_word`: what sets a reducer there is a word;
-- - `goes_along`: the serial run from that point on is the run by names, sets reducers to words,
--   and keeps its unused ticks.
use Rattle.std.proofs.Common.{◌≡◌, ◌≤◌, ◌<◌, ℕ, suc, ◌+◌, ◌-◌, nat_eq, nat_lt, ℤ, pos, Bool, false, cond, if◌then◌else◌, IsTrue, List, [], ◌∷◌, ◌++◌, length, Option, Some, None, ⊎_elim, refl, sym, ap, ap₂, ◌∙◌, subst, arith, length-append}
use Rattle.std.proofs.lemmas.Bool.{lt-ltb, le-ltb, ne_eqb, cases_lt}
use Rattle.cilk_types.specs.declared.event.Event.{Event}
use Rattle.cilk_types.specs.declared.fault.Fault.{Fault}
use Rattle.cilk_types.specs.declared.fault.Fault.TheVariants.{TooManyEvents, TooManyFrames, TooManyCells}
use Rattle.cilk_types.specs.declared.invocation.Invocation.{Invocation}
use Rattle.cilk_types.specs.declared.invocation.Invocation.TheVariants.{Call, Spawn}
use Rattle.cilk_types.specs.declared.limits.TheConstants.{MAX_TICKS, MAX_FRAMES, MAX_CELLS}
use Rattle.cilk_types.specs.Word.{IsWord}
use Rattle.cilk_program.specs.declared.ask.Ask as language
use Rattle.cilk_program.specs.declared.ask.Ask.TheVariants as asks
use Rattle.cilk_program.specs.declared.ask.Callee.{Callee}
use Rattle.cilk_program.specs.Behaviour.{OpenAsk, asks_for, frame_asks}
use Rattle.cilk_program.specs.Syntax.{Source}
use Rattle.cilk_program.specs.SerialRun as serial
use Rattle.cilk_program.specs.SerialRun.{Memory, Frame, cells_of, next_frame, begun, counted, with_store, stored, answer_to, event_of, invocation, result_written, crowded, refused, IsInner, Ending, Finished, Stopped, Serial, Made, Ended, Went, Broke, Refused}
use Rattle.cilk_program.specs.WellNamed.{is_well_named}
use Rattle.cilk_program.specs.Numbering.{Counts, counts_of, counts_after, entered}
use Rattle.cilk_program.specs.Ticks.{IsWithin}
use Rattle.cilk_program.proofs.Existence.{serial_spends}
use Rattle.cilk_program.proofs.Numbers.{serial_counts}
use Rattle.cilk_program.proofs.Ticking.{at_full, frame_low, frame_further, not_out, runs_short}
use Rattle.cilk_determinacy.specs.Costs.{TickTotal, FrameTotal, CellTotal, weight}
use Rattle.cilk_determinacy.specs.Machine.{started, put}
use Rattle.cilk_determinacy.specs.Monoids.{on_view}
use Rattle.cilk_determinacy.specs.Runs.{Cell, Instance, Ask, Invoke, Event as Happens, Reads, Writes, Syncs, Ends, Passes, Deed, Does, Invokes, Run, stop, act, child, ask_of}
use Rattle.cilk_determinacy.specs.Runs as runs
use Rattle.cilk_determinacy.specs.Serial.{value_after, IsSerial, Behaves}
use Rattle.cilk_determinacy.specs.MachineTheorem.{follows}
use Rattle.cilk_determinacy.specs.Traces.{trace}
use Rattle.cilk_determinacy.specs.Views.{view_after, IsSerialViews}
use Rattle.cilk_determinacy.proofs.Started.{started_does, started_invokes}
use Rattle.cilk_determinacy.specs.FrameEnvMachine.{retired_by, named_ask, answer_of, answers_of, is_end, but_last, asked_after, next, taken, costs}
use Rattle.cilk_determinacy.specs.Reducers.{View, monoid_of}
use Rattle.cilk_determinacy.specs.FrameEnvs.{FrameEnv, child_env, reducer_seen}
use Rattle.cilk_determinacy.proofs.Histories.{but_last_more, answers_more, ended_more}
use Rattle.cilk_determinacy.specs.Nested.{named_event, named_from}
use Rattle.cilk_determinacy.specs.Numbers.{cell_number, instance_number}
use Rattle.cilk_determinacy.specs.Theorem.{SetsWord, SetWords}
use Rattle.cilk_determinacy.proofs.Behaving.{At, inner_asks, inner_answers}
use Rattle.cilk_determinacy.proofs.Remembered.{act_follows, run_remembers}
use Rattle.cilk_determinacy.proofs.Standing.{Standing, asked_there, standing_act, standing_child, standing_past}
use Rattle.cilk_determinacy.proofs.Stores.{Same}
use Rattle.cilk_determinacy.proofs.Weights.{written_length, frames_weigh, cells_weigh}
use Rattle.cilk_replay.proofs.CourseFrames.{ends_over}
use Rattle.cilk_replay.proofs.CourseWords.{EventWords, RunWords}
use Rattle.cilk_replay.proofs.OneCourse.{same_event}
use Rattle.cilk_replay.proofs.OneRun.{invoked}

-- ---- requests by names

inner_ends : (p : Source) (w : FrameEnv) (a : language.Ask) (v : ℤ) → IsInner a → is_end (Does (named_event p w a v)) ≡ false
inner_ends p w asks.Begin v i = refl
inner_ends p w (asks.Read x) v i = refl
inner_ends p w (asks.Write x y) v i = refl
inner_ends p w (asks.Create r) v i = refl
inner_ends p w (asks.Update r y) v i = refl
inner_ends p w (asks.Set r y) v i = refl
inner_ends p w (asks.Value r) v i = refl
inner_ends p w (asks.Print y) v i = refl
inner_ends p w (asks.Invoke how callee) v i = absurd i
inner_ends p w asks.Resume v i = refl
inner_ends p w asks.Sync v i = refl
inner_ends p w (asks.Result y) v i = refl
inner_ends p w (asks.End y) v i = absurd i
inner_ends p w (asks.Fault f) v i = absurd i

pub failed : (e : Happens) (f : Fault) (a : Ask FrameEnv) → a ≡ runs.Fail f → a ≡ ask_of e → ⊥
failed (Reads c x) f a g q = cc
failed (Writes c x) f a g q = cc
failed Syncs f a g q = cc
failed (Ends x gone) f a g q = cc
failed (Passes m) f a g q = cc

-- ---- requests that aren't refused

has_room : (room : ℕ) (o : Option Fault) → 0 < room → (if nat_eq room 0 then Some TooManyEvents else o) ≡ o
has_room room o h = ap (λ (b : Bool). if b then Some TooManyEvents else o) (ne_eqb room 0 (λ e. omega (arith, e, h)))

not_crowded : (p : Source) (callee : Callee) (m : Memory) → 0 < m.room → m.frames < MAX_FRAMES → m.cells + cells_of p callee ≤ MAX_CELLS
    → crowded p callee m ≡ None
not_crowded p callee m room frames cells =
    has_room m.room _ room
    ∙ ap (λ (b : Bool). if b then (if nat_lt MAX_CELLS (m.cells + cells_of p callee) then Some TooManyCells else None) else Some TooManyFrames) (lt-ltb m.frames MAX_FRAMES frames)
    ∙ ap (λ (b : Bool). if b then Some TooManyCells else None) (le-ltb MAX_CELLS (m.cells + cells_of p callee) cells)

not_refused : (p : Source) (w : FrameEnv) (k : ℕ) (m : Memory) (a : language.Ask) (e : Happens) → 0 < m.room → named_ask p w k a ≡ ask_of e
    → (refused p m a ≡ None) × IsWithin a
not_refused p w k m asks.Begin e h q = (has_room m.room None h, tt)
not_refused p w k m (asks.Read x) e h q = (has_room m.room None h, tt)
not_refused p w k m (asks.Write x y) e h q = (has_room m.room None h, tt)
not_refused p w k m (asks.Create r) e h q = (has_room m.room None h, tt)
not_refused p w k m (asks.Update r y) e h q = (has_room m.room None h, tt)
not_refused p w k m (asks.Set r y) e h q = (has_room m.room None h, tt)
not_refused p w k m (asks.Value r) e h q = (has_room m.room None h, tt)
not_refused p w k m (asks.Print y) e h q = (has_room m.room None h, tt)
not_refused p w k m (asks.Invoke how callee) e h q = absurd (invoked e how (child_env p w k callee) (sym q))
not_refused p w k m asks.Resume e h q = (has_room m.room None h, tt)
not_refused p w k m asks.Sync e h q = (has_room m.room None h, tt)
not_refused p w k m (asks.Result y) e h q = (has_room m.room None h, tt)
not_refused p w k m (asks.End y) e h q = (has_room m.room None h, tt)
not_refused p w k m (asks.Fault f) e h q = absurd (failed e f (runs.Fail f) refl q)

-- the frame that a request starts
record IsInvoked (p : Source) (w : FrameEnv) (k : ℕ) (a : language.Ask) (how : Invocation) (x : FrameEnv) : Type 0 where
  callee : Callee
  is : a ≡ asks.Invoke how callee
  what : x ≡ child_env p w k callee

is_invoked : (p : Source) (w : FrameEnv) (k : ℕ) (a : language.Ask) (how : Invocation) (x : FrameEnv) → named_ask p w k a ≡ Invoke how x → IsInvoked p w k a how x
is_invoked p w k asks.Begin how x q = absurd (cc q)
is_invoked p w k (asks.Read y) how x q = absurd (cc q)
is_invoked p w k (asks.Write y v) how x q = absurd (cc q)
is_invoked p w k (asks.Create r) how x q = absurd (cc q)
is_invoked p w k (asks.Update r v) how x q = absurd (cc q)
is_invoked p w k (asks.Set r v) how x q = absurd (cc q)
is_invoked p w k (asks.Value r) how x q = absurd (cc q)
is_invoked p w k (asks.Print v) how x q = absurd (cc q)
is_invoked p w k (asks.Invoke k' callee) how x q =
    let same : k' ≡ how = cc q in
    let what : child_env p w k callee ≡ x = cc q in
    record { callee = callee; is = ap (λ (i : Invocation). asks.Invoke i callee) same; what = sym what }
is_invoked p w k asks.Resume how x q = absurd (cc q)
is_invoked p w k asks.Sync how x q = absurd (cc q)
is_invoked p w k (asks.Result v) how x q = absurd (cc q)
is_invoked p w k (asks.End v) how x q = absurd (cc q)
is_invoked p w k (asks.Fault f) how x q = absurd (cc q)

none_some : (f : Fault) → Some f ≡ None → ⊥
none_some f q = cc

same_some : (W : Type 0) (o : Option W) (a b : W) → o ≡ Some a → o ≡ Some b → a ≡ b
same_some W o a b g h = cc

nothing_some : (W : Type 0) (o : Option W) (a : W) → o ≡ None → o ≡ Some a → ⊥
nothing_some W o a g h = cc

-- a history is empty or has a last deed
before_is_less : (f : List (Deed FrameEnv) → ℕ) → ((past : List (Deed FrameEnv)) (d : Deed FrameEnv) → f past ≤ f (past ++ d ∷ []))
    → (past : List (Deed FrameEnv)) → f (but_last past) ≤ f past
before_is_less f more [] = omega arith
before_is_less f more (d ∷ past) = by past [] d
  where
    assoc : (done rest : List (Deed FrameEnv)) (d : Deed FrameEnv) → (done ++ d ∷ []) ++ rest ≡ done ++ d ∷ rest
    assoc [] rest d = refl
    assoc (e ∷ done) rest d = ap (λ (l : List (Deed FrameEnv)). e ∷ l) (assoc done rest d)

    by : (past done : List (Deed FrameEnv)) (d : Deed FrameEnv) → f (done ++ but_last (d ∷ past)) ≤ f (done ++ d ∷ past)
    by [] done d = more' done d
      where
        nil : (l : List (Deed FrameEnv)) → l ++ [] ≡ l
        nil [] = refl
        nil (e ∷ l) = ap (λ (l : List (Deed FrameEnv)). e ∷ l) (nil l)

        more' : (done : List (Deed FrameEnv)) (d : Deed FrameEnv) → f (done ++ []) ≤ f (done ++ d ∷ [])
        more' done d = subst (λ l. f l ≤ f (done ++ d ∷ [])) (sym (nil done)) (more done d)
    by (e ∷ past) done d =
        let h = by past (done ++ d ∷ []) e in
        subst (λ l. l ≤ f (done ++ d ∷ e ∷ past)) (ap f (assoc done (but_last (e ∷ past)) d)) (subst (λ l. f ((done ++ d ∷ []) ++ but_last (e ∷ past)) ≤ l) (ap f (assoc done (e ∷ past) d)) h)

-- ---- words

-- if the event by names has words, a reducer is set to a word
set_asked : (e : Happens) (i : Instance) (v : ℤ) → ask_of {W = FrameEnv} e ≡ runs.Pass (runs.Set i v) → EventWords e → IsWord v
set_asked (Reads c x) i v q h = absurd (cc q)
set_asked (Writes c x) i v q h = absurd (cc q)
set_asked Syncs i v q h = absurd (cc q)
set_asked (Ends x gone) i v q h = absurd (cc q)
set_asked (Passes runs.Begins) i v q h = absurd (cc q)
set_asked (Passes runs.Resumes) i v q h = absurd (cc q)
set_asked (Passes (runs.Creates j)) i v q h = absurd (cc q)
set_asked (Passes (runs.Updates j x)) i v q h = absurd (cc q)
set_asked (Passes (runs.Sets j x)) i v q h = let same : x ≡ v = cc q in subst IsWord same h
set_asked (Passes (runs.Values j x)) i v q h = absurd (cc q)
set_asked (Passes (runs.Prints x)) i v q h = absurd (cc q)

result_sets : (o : Option ℕ) (v : ℤ) → SetsWord (result_written o v)
result_sets None v = tt
result_sets (Some c) v = tt

set_word : (p : Source) (w : FrameEnv) (k : ℕ) (fr : Frame) (m : Memory) (a : language.Ask) (e : Happens) → IsInner a → ask_of e ≡ named_ask p w k a
    → EventWords e → SetsWord (event_of fr m a)
set_word p w k fr m asks.Begin e i q h = tt
set_word p w k fr m (asks.Read x) e i q h = tt
set_word p w k fr m (asks.Write x v) e i q h = tt
set_word p w k fr m (asks.Create r) e i q h = tt
set_word p w k fr m (asks.Update r v) e i q h = tt
set_word p w k fr m (asks.Set r v) e i q h = set_asked e (reducer_seen w r) v q h
set_word p w k fr m (asks.Value r) e i q h = tt
set_word p w k fr m (asks.Print v) e i q h = tt
set_word p w k fr m (asks.Invoke how callee) e i q h = absurd i
set_word p w k fr m asks.Resume e i q h = tt
set_word p w k fr m asks.Sync e i q h = tt
set_word p w k fr m (asks.Result v) e i q h = result_sets fr.result v
set_word p w k fr m (asks.End v) e i q h = absurd i
set_word p w k fr m (asks.Fault f) e i q h = absurd i

starts_with : (how : Invocation) (n : ℕ) → SetsWord (invocation how n)
starts_with Call n = tt
starts_with Spawn n = tt

set_both : (es es' : List Event) → SetWords es → SetWords es' → SetWords (es ++ es')
set_both [] es' h g = g
set_both (e ∷ es) es' h g = (h.0, set_both es es' h.1 g)

-- ---- the position of a frame, and its request

module _ (p : Source) (inputs : List ℤ) where
  taken_more : (w : FrameEnv) (past : List (Deed FrameEnv)) (d : Deed FrameEnv) → taken p inputs w past ≤ taken p inputs w (past ++ d ∷ [])
  taken_more w past d =
      let less = frame_further p inputs w.callee (answer_of d) (answers_of past) MAX_TICKS in
      let more = subst (λ hs. (frame_asks p inputs w.callee hs MAX_TICKS).left ≤ (asked_after p inputs w past).left) (sym (answers_more past d)) less in
      omega (arith, more)

  before_taken : (w : FrameEnv) (past : List (Deed FrameEnv)) → taken p inputs w (but_last past) ≤ taken p inputs w past
  before_taken w past = before_is_less (taken p inputs w) (taken_more w) past

  -- the request there, and the ticks used by then
  record Asking (w : FrameEnv) (past : List (Deed FrameEnv)) (k : ℕ) (a : language.Ask) (start left : ℕ) : Type 0 where
    asks : next p inputs w past ≡ Some (named_ask p w k a)
    took : taken p inputs w past ≡ start - left
    low : left ≤ start

  named_next : (w : FrameEnv) (fr : Frame) (past : List (Deed FrameEnv)) (history : List ℤ) (k : ℕ) → At p inputs w fr past history k
      → next p inputs w past ≡ Some (named_ask p w k (asked_after p inputs w past).ask)
  named_next w fr past history k at =
      ap (λ t. cond t None (Some (named_ask p w (suc (started past)) (asked_after p inputs w past).ask))) at.going ∙ ap (λ k. Some (named_ask p w k (asked_after p inputs w past).ask)) at.ordinal

  full_ask : (w : FrameEnv) (fr : Frame) (past : List (Deed FrameEnv)) (history : List ℤ) (k : ℕ) → At p inputs w fr past history k
      → asked_after p inputs w past ≡ frame_asks p inputs fr.callee history MAX_TICKS
  full_ask w fr past history k at = ap (λ callee. frame_asks p inputs callee (answers_of past) MAX_TICKS) at.callee ∙ ap (λ hs. frame_asks p inputs fr.callee hs MAX_TICKS) at.answers

  -- A frame makes the same request with any number of ticks not less than it has used by then, be
  -- it fewer or more than a run's.
  asks_same : (w : FrameEnv) (fr : Frame) (past : List (Deed FrameEnv)) (history : List ℤ) (k start : ℕ) → At p inputs w fr past history k
      → taken p inputs w past ≤ start → IsWithin (asked_after p inputs w past).ask
      → frame_asks p inputs fr.callee history start ≡ asks_for (asked_after p inputs w past).ask (start - taken p inputs w past)
  asks_same w fr past history k start at enough within = ⊎_elim (λ less. fewer (omega (arith, less))) more (cases_lt start MAX_TICKS)
    where
      here : frame_asks p inputs fr.callee history MAX_TICKS ≡ asked_after p inputs w past
      here = sym (full_ask w fr past history k at)

      few : (asked_after p inputs w past).left ≤ MAX_TICKS
      few = frame_low p inputs w.callee (answers_of past) MAX_TICKS

      fewer : start ≤ MAX_TICKS → frame_asks p inputs fr.callee history start ≡ asks_for (asked_after p inputs w past).ask (start - taken p inputs w past)
      fewer low =
          let a = asked_after p inputs w past in
          let spare = MAX_TICKS - start in
          let short = runs_short p inputs in
          let all : start + spare ≡ MAX_TICKS = omega (arith, low) in
          let much : start - taken p inputs w past + spare ≡ a.left = omega (arith, enough, low, few) in
          short.fewer fr.callee history start spare (start - taken p inputs w past) a.ask
          (subst (λ n. frame_asks p inputs fr.callee history n ≡ asks_for a.ask (start - taken p inputs w past + spare)) (sym all)
          (subst (λ n. frame_asks p inputs fr.callee history MAX_TICKS ≡ asks_for a.ask n) (sym much) here)) within

      more : MAX_TICKS ≤ start → frame_asks p inputs fr.callee history start ≡ asks_for (asked_after p inputs w past).ask (start - taken p inputs w past)
      more high =
          let a = asked_after p inputs w past in
          let much : a.left + (start - MAX_TICKS) ≡ start - taken p inputs w past = omega (arith, high, few) in
          (at_full p inputs fr.callee start history MAX_TICKS a.left a.ask here (not_out a.ask within) high).0 ∙ ap (asks_for a.ask) much

  asking : (w : FrameEnv) (fr : Frame) (past : List (Deed FrameEnv)) (history : List ℤ) (k : ℕ) (a : language.Ask) (start left : ℕ)
      → At p inputs w fr past history k → frame_asks p inputs fr.callee history start ≡ asks_for a left
      → taken p inputs w past ≤ start → IsWithin (asked_after p inputs w past).ask → Asking w past k a start left
  asking w fr past history k a start left at q enough within =
      let same : asks_for (asked_after p inputs w past).ask (start - taken p inputs w past) ≡ asks_for a left =
      sym (asks_same w fr past history k start at enough within) ∙ q in
      let left_is : start - taken p inputs w past ≡ left = ap (λ (q : OpenAsk). q.left) same in
      record {
        asks = named_next w fr past history k at ∙ ap (λ (q : OpenAsk). Some (named_ask p w k q.ask)) same;
        took = omega (arith, left_is, enough);
        low = omega (arith, left_is);
      }

  at_act : (w : FrameEnv) (fr : Frame) (past : List (Deed FrameEnv)) (history : List ℤ) (k : ℕ) (m : Memory) (a : language.Ask) → IsInner a
      → At p inputs w fr past history k
      → At p inputs w fr (past ++ Does (named_event p w a (answer_to fr m a)) ∷ []) (history ++ answer_to fr m a ∷ []) k
  at_act w fr past history k m a inner at =
      let e = named_event p w a (answer_to fr m a) in
      record {
        callee = at.callee;
        answers = answers_more past (Does e) ∙ ap₂ (λ hs v. hs ++ v ∷ []) at.answers (inner_answers p w fr m a);
        going = ended_more past (Does e) at.going ∙ inner_ends p w a (answer_to fr m a) inner;
        ordinal = ap suc (started_does past e) ∙ at.ordinal;
      }

  at_child : (w : FrameEnv) (fr : Frame) (past : List (Deed FrameEnv)) (history : List ℤ) (k : ℕ) (how : Invocation) (v : FrameEnv)
      → At p inputs w fr past history k → At p inputs w fr (past ++ Invokes how v ∷ []) (history ++ pos 0 ∷ []) (suc k)
  at_child w fr past history k how v at = record {
    callee = at.callee;
    answers = answers_more past (Invokes how v) ∙ ap (λ hs. hs ++ pos 0 ∷ []) at.answers;
    going = ended_more past (Invokes how v) at.going;
    ordinal = ap suc (started_invokes past how v ∙ at.ordinal);
  }

  -- ---- the run by names from a point on, and what is left of each limit
  pub record Goes (w : FrameEnv) (past : List (Deed FrameEnv)) (u : Run FrameEnv) (memory : Cell → ℤ) (views : Instance → View) (start : ℕ) (m : Memory) : Type 0 where
    pub behaves : Behaves FrameEnv (follows (next p inputs)) w past u
    pub reads : IsSerial u memory
    pub values : IsSerialViews monoid_of u views
    pub words : RunWords u
    pub ticks : weight (costs p inputs) TickTotal w past u + taken p inputs w (but_last past) ≤ start
    pub events : length (trace u) ≤ m.room
    pub frames : m.frames + weight (costs p inputs) FrameTotal w past u ≤ MAX_FRAMES
    pub cells : m.cells + weight (costs p inputs) CellTotal w past u ≤ MAX_CELLS

  goes_act : (w : FrameEnv) (past : List (Deed FrameEnv)) (e : Happens) (u : Run FrameEnv) (memory : Cell → ℤ) (views : Instance → View) (start : ℕ) (m : Memory) (store : _) → Goes w past (act e u) memory views start m
      → Goes w (past ++ Does e ∷ []) u (λ c. put e c (memory c)) (λ i. on_view (monoid_of i) i e (views i)) start (with_store m store)
  goes_act w past e u memory views start m store h =
      let last : taken p inputs w (but_last (past ++ Does e ∷ [])) ≡ taken p inputs w past = ap (taken p inputs w) (but_last_more past (Does e)) in
      let before = before_taken w past in
      let t = h.ticks in
      let n = h.events in
      let f = h.frames in
      let c = h.cells in
      record {
        behaves = h.behaves.1;
        reads = h.reads.1;
        values = h.values.1;
        words = h.words.1;
        ticks = omega (arith, last, before, t);
        events = omega (arith, n);
        frames = omega (arith, f);
        cells = omega (arith, c);
      }

  -- ---- the request at that point

  -- a request at a point of the run by names isn't refused
  no_refusal : (w : FrameEnv) (fr : Frame) (past : List (Deed FrameEnv)) (history : List ℤ) (k start left : ℕ) (m : Memory) (b : language.Ask) (f : Fault)
      → At p inputs w fr past history k → taken p inputs w past ≤ start
      → frame_asks p inputs fr.callee history start ≡ asks_for b left → refused p m b ≡ Some f
      → (refused p m (asked_after p inputs w past).ask ≡ None) × IsWithin (asked_after p inputs w past).ask → ⊥
  no_refusal w fr past history k start left m b f at enough q bad good =
      let same = asks_same w fr past history k start at enough good.1 in
      let one : b ≡ (asked_after p inputs w past).ask = ap (λ (q : OpenAsk). q.ask) (sym q ∙ same) in
      none_some f (sym bad ∙ ap (refused p m) one ∙ good.0)

  enough_act : (w : FrameEnv) (past : List (Deed FrameEnv)) (e : Happens) (u : Run FrameEnv) (memory : Cell → ℤ) (views : Instance → View) (start : ℕ) (m : Memory) → Goes w past (act e u) memory views start m → taken p inputs w past ≤ start
  enough_act w past e u memory views start m h = let t = h.ticks in let before = before_taken w past in omega (arith, t, before)

  enough_child : (w : FrameEnv) (past : List (Deed FrameEnv)) (k : Invocation) (x : FrameEnv) (d u : Run FrameEnv) (memory : Cell → ℤ) (views : Instance → View) (start : ℕ) (m : Memory) → Goes w past (child k x d u) memory views start m → taken p inputs w past ≤ start
  enough_child w past k x d u memory views start m h = let t = h.ticks in let before = before_taken w past in omega (arith, t, before)

  -- a request of a frame of the run isn't refused
  good_act : (w : FrameEnv) (fr : Frame) (past : List (Deed FrameEnv)) (history : List ℤ) (j start : ℕ) (m : Memory) (e : Happens) (u : Run FrameEnv)
      (memory : Cell → ℤ) (views : Instance → View) → At p inputs w fr past history j
      → Goes w past (act e u) memory views start m → (refused p m (asked_after p inputs w past).ask ≡ None) × IsWithin (asked_after p inputs w past).ask
  good_act w fr past history j start m e u memory views at h =
      let n = h.events in
      let room : 0 < m.room = omega (arith, n) in
      not_refused p w j m (asked_after p inputs w past).ask e room
      (same_some (Ask FrameEnv) (next p inputs w past) _ _ (named_next w fr past history j at) h.behaves.0)

  good_child : (w : FrameEnv) (fr : Frame) (past : List (Deed FrameEnv)) (history : List ℤ) (j start : ℕ) (m : Memory) (k : Invocation) (x : FrameEnv)
      (d u : Run FrameEnv) (memory : Cell → ℤ) (views : Instance → View) → At p inputs w fr past history j
      → Goes w past (child k x d u) memory views start m
      → (refused p m (asked_after p inputs w past).ask ≡ None) × IsWithin (asked_after p inputs w past).ask
  good_child w fr past history j start m k x d u memory views at h =
      let n = h.events in
      let room : 0 < m.room = omega (arith, n) in
      let ask = same_some (Ask FrameEnv) (next p inputs w past) _ _ (named_next w fr past history j at) h.behaves.0 in
      let i = is_invoked p w j (asked_after p inputs w past).ask k x ask in
      let same : cells_of p x.callee ≡ cells_of p i.callee = ap (λ (z : FrameEnv). cells_of p z.callee) i.what in
      let fs = h.frames in
      let cs = h.cells in
      let frames : m.frames < MAX_FRAMES = omega (arith, fs) in
      let cells : m.cells + cells_of p i.callee ≤ MAX_CELLS = omega (arith, cs, same) in
      subst (λ a. (refused p m a ≡ None) × IsWithin a) (sym i.is) (not_crowded p i.callee m room frames cells, tt)

  asking_act : (w : FrameEnv) (fr : Frame) (past : List (Deed FrameEnv)) (history : List ℤ) (j : ℕ) (a : language.Ask) (start left : ℕ) (m : Memory)
      (e : Happens) (u : Run FrameEnv) (memory : Cell → ℤ) (views : Instance → View) → At p inputs w fr past history j
      → frame_asks p inputs fr.callee history start ≡ asks_for a left → Goes w past (act e u) memory views start m → Asking w past j a start left
  asking_act w fr past history j a start left m e u memory views at q h =
      asking w fr past history j a start left at q (enough_act w past e u memory views start m h)
      (good_act w fr past history j start m e u memory views at h).1

  asking_child : (w : FrameEnv) (fr : Frame) (past : List (Deed FrameEnv)) (history : List ℤ) (j : ℕ) (a : language.Ask) (start left : ℕ) (m : Memory)
      (k : Invocation) (x : FrameEnv) (d u : Run FrameEnv) (memory : Cell → ℤ) (views : Instance → View) → At p inputs w fr past history j
      → frame_asks p inputs fr.callee history start ≡ asks_for a left → Goes w past (child k x d u) memory views start m → Asking w past j a start left
  asking_child w fr past history j a start left m k x d u memory views at q h =
      asking w fr past history j a start left at q (enough_child w past k x d u memory views start m h)
      (good_child w fr past history j start m k x d u memory views at h).1

  refused_act : (w : FrameEnv) (fr : Frame) (past : List (Deed FrameEnv)) (history : List ℤ) (j start left : ℕ) (m : Memory) (b : language.Ask) (f : Fault)
      (e : Happens) (u : Run FrameEnv) (memory : Cell → ℤ) (views : Instance → View) → At p inputs w fr past history j
      → frame_asks p inputs fr.callee history start ≡ asks_for b left → refused p m b ≡ Some f → Goes w past (act e u) memory views start m → ⊥
  refused_act w fr past history j start left m b f e u memory views at q bad h =
      no_refusal w fr past history j start left m b f at (enough_act w past e u memory views start m h) q bad
      (good_act w fr past history j start m e u memory views at h)

  refused_child : (w : FrameEnv) (fr : Frame) (past : List (Deed FrameEnv)) (history : List ℤ) (j start left : ℕ) (m : Memory) (b : language.Ask) (f : Fault)
      (k : Invocation) (x : FrameEnv) (d u : Run FrameEnv) (memory : Cell → ℤ) (views : Instance → View) → At p inputs w fr past history j
      → frame_asks p inputs fr.callee history start ≡ asks_for b left → refused p m b ≡ Some f → Goes w past (child k x d u) memory views start m → ⊥
  refused_child w fr past history j start left m b f k x d u memory views at q bad h =
      no_refusal w fr past history j start left m b f at (enough_child w past k x d u memory views start m h) q bad
      (good_child w fr past history j start m k x d u memory views at h)

  stopped_early : (w : FrameEnv) (fr : Frame) (past : List (Deed FrameEnv)) (history : List ℤ) (j : ℕ) → At p inputs w fr past history j
      → Behaves FrameEnv (follows (next p inputs)) w past stop → ⊥
  stopped_early w fr past history j at b = b _ (named_next w fr past history j at)

  -- ---- the serial run follows the run by names

  -- The serial run from a point on has events es and is t by names. It is the run by names, it sets
  -- reducers to words, and its used and unused ticks are those that there were.
  abbrev pub EndsAs : Ending → FrameEnv → List (Deed FrameEnv) → ℕ → List Event → Run FrameEnv → Run FrameEnv → Type 0
  EndsAs (Finished v left m) w past start es t u =
      (t ≡ u) × SetWords es × (weight (costs p inputs) TickTotal w past t + left + taken p inputs w (but_last past) ≡ start)
  EndsAs (Stopped f) w past start es t u = ⊥

  ends_act : (end : Ending) (w : FrameEnv) (past : List (Deed FrameEnv)) (start : ℕ) (e : Happens) (n : Event) (es : List Event) (t u : Run FrameEnv)
      → SetsWord n
      → EndsAs end w (past ++ Does e ∷ []) start es t u → EndsAs end w past start (n ∷ es) (act e t) (act e u)
  ends_act (Finished v left m) w past start e n es t u word h =
      let last : taken p inputs w (but_last (past ++ Does e ∷ [])) ≡ taken p inputs w past = ap (taken p inputs w) (but_last_more past (Does e)) in
      let before = before_taken w past in
      let adds = h.2 in
      (ap (λ (z : Run FrameEnv). act e z) h.0, (word, h.1), omega (arith, last, before, adds))
  ends_act (Stopped f) w past start e n es t u word h = h

  ends_child : (end : Ending) (w : FrameEnv) (past : List (Deed FrameEnv)) (start left left' : ℕ) (k : Invocation) (n : ℕ) (x : FrameEnv) (es es' : List Event)
      (d t u : Run FrameEnv) → taken p inputs w past ≡ start - left → left ≤ start → SetWords es
      → weight (costs p inputs) TickTotal x [] d + left' + taken p inputs x (but_last []) ≡ left
      → EndsAs end w (past ++ Invokes k x ∷ []) (left' + (start - left)) es' t u
      → EndsAs end w past start (invocation k n ∷ (es ++ es')) (child k x d t) (child k x d u)
  ends_child (Finished v left'' m) w past start left left' k n x es es' d t u took low words adds h =
      let last : taken p inputs w (but_last (past ++ Invokes k x ∷ [])) ≡ taken p inputs w past = ap (taken p inputs w) (but_last_more past (Invokes k x)) in
      let before = before_taken w past in
      let nothing : taken p inputs x (but_last []) ≡ 0 = omega arith in
      let adds' = h.2 in
      let ticks : weight (costs p inputs) TickTotal w past (child k x d t) + left'' + taken p inputs w (but_last past) ≡ start =
      omega (arith, last, before, nothing, took, low, adds, adds') in
      (ap (λ (z : Run FrameEnv). child k x d z) h.0, (starts_with k n, set_both es es' words h.1), ticks)
  ends_child (Stopped f) w past start left left' k n x es es' d t u took low words adds h = h

  same_how : (W : Type 0) (k k' : Invocation) (x x' : W) (o : Option (Ask W)) → o ≡ Some (Invoke k x) → o ≡ Some (Invoke k' x') → k ≡ k'
  same_how W k k' x x' o g h = cc

  same_what : (W : Type 0) (k k' : Invocation) (x x' : W) (o : Option (Ask W)) → o ≡ Some (Invoke k x) → o ≡ Some (Invoke k' x') → x ≡ x'
  same_what W k k' x x' o g h = cc

  -- nothing follows a frame's end
  over : (w : FrameEnv) (past : List (Deed FrameEnv)) (e : Happens) (v : ℤ) (u : Run FrameEnv) → e ≡ Ends v (retired_by p w)
      → Behaves FrameEnv (follows (next p inputs)) w (past ++ Does e ∷ []) u → u ≡ stop
  over w past e v stop same b = refl
  over w past e v (act x u) same b =
      absurd (nothing_some (Ask FrameEnv) _ _ (ends_over p inputs w past v (retired_by p w)) (subst (λ (z : Happens). next p inputs w (past ++ Does z ∷ []) ≡ Some (ask_of x)) same b.0))
  over w past e v (child k x d u) same b =
      absurd (nothing_some (Ask FrameEnv) _ _ (ends_over p inputs w past v (retired_by p w)) (subst (λ (z : Happens). next p inputs w (past ++ Does z ∷ []) ≡ Some (Invoke k x)) same b.0))

  pub at_begin : (w : FrameEnv) (fr : Frame) → w.callee ≡ fr.callee → At p inputs w fr [] [] 1
  at_begin w fr same = record { callee = same; answers = refl; going = refl; ordinal = refl }

  -- the child's part
  goes_inner : (w : FrameEnv) (past : List (Deed FrameEnv)) (k : Invocation) (c : FrameEnv) (callee : Callee) (d u : Run FrameEnv) (memory : Cell → ℤ) (views : Instance → View) (start left : ℕ) (m : Memory) → c.callee ≡ callee
      → taken p inputs w past ≡ start - left → left ≤ start → Goes w past (child k c d u) memory views start m
      → Goes c [] d memory views left (begun p callee (counted m))
  goes_inner w past k c callee d u memory views start left m same took low h =
      let nothing : taken p inputs c (but_last []) ≡ 0 = omega arith in
      let before = before_taken w past in
      let cells_same : cells_of p c.callee ≡ cells_of p callee = ap (cells_of p) same in
      let both = length-append (trace d) (trace u) in
      let t = h.ticks in
      let n = h.events in
      let fs = h.frames in
      let cs = h.cells in
      record {
        behaves = h.behaves.1;
        reads = h.reads.0;
        values = h.values.0;
        words = h.words.1;
        ticks = omega (arith, nothing, before, took, low, t);
        events = omega (arith, n, both);
        frames = omega (arith, fs);
        cells = omega (arith, cs, cells_same);
      }

  -- what follows the child
  goes_past : (w : FrameEnv) (past : List (Deed FrameEnv)) (k : Invocation) (c : FrameEnv) (callee : Callee) (d u : Run FrameEnv) (memory : Cell → ℤ) (views : Instance → View) (start left left' : ℕ) (m m' : Memory) (many : ℕ) (after : Counts) → c.callee ≡ callee
      → taken p inputs w past ≡ start - left → left ≤ start → Goes w past (child k c d u) memory views start m
      → weight (costs p inputs) TickTotal c [] d + left' + taken p inputs c (but_last []) ≡ left
      → many + m'.room ≡ m.room - 1 → length (trace d) ≡ many → counts_of m' ≡ after
      → suc m.frames + weight (costs p inputs) FrameTotal c [] d ≡ after.frames
      → m.cells + cells_of p callee + weight (costs p inputs) CellTotal c [] d ≡ after.cells
      → Goes w (past ++ Invokes k c ∷ []) u (λ x. value_after d x (memory x)) (λ i. view_after (monoid_of i) i d (views i)) (left' + (start - left)) m'
  goes_past w past k c callee d u memory views start left left' m m' many after same took low h adds spent long counts frames_are cells_are =
      let last : taken p inputs w (but_last (past ++ Invokes k c ∷ [])) ≡ taken p inputs w past = ap (taken p inputs w) (but_last_more past (Invokes k c)) in
      let before = before_taken w past in
      let cells_same : cells_of p c.callee ≡ cells_of p callee = ap (cells_of p) same in
      let both = length-append (trace d) (trace u) in
      let t = h.ticks in
      let n = h.events in
      let fs = h.frames in
      let cs = h.cells in
      let frames : m'.frames ≡ after.frames = ap (λ (z : Counts). z.frames) counts in
      let cells : m'.cells ≡ after.cells = ap (λ (z : Counts). z.cells) counts in
      record {
        behaves = h.behaves.2;
        reads = h.reads.1;
        values = h.values.1;
        words = h.words.2;
        ticks = omega (arith, last, before, took, low, t, adds);
        events = omega (arith, n, both, spent, long);
        frames = omega (arith, fs, frames, frames_are);
        cells = omega (arith, cs, cells, cells_are, cells_same);
      }

  module _ (well : IsTrue (is_well_named p)) (whole : serial.Transcript) where
    pub goes_along : {fr : Frame} {start : ℕ} {history : List ℤ} {m : Memory} {r : serial.Transcript} {es : List Event} {end : Ending}
        → Serial p inputs fr start history m r es end
        → (w : FrameEnv) (past : List (Deed FrameEnv)) (j : ℕ) → At p inputs w fr past history (suc j) → Standing p inputs well whole w fr j r (counts_of m)
        → (memory : Cell → ℤ) (views : Instance → View) → Same p whole memory views m.store → (u : Run FrameEnv) → Goes w past u memory views start m
        → EndsAs end w past start es (named_from p w (suc j) r) u
    goes_along (Made {fr = fr} {history = history} a left q inner ok rest) w past j at standing memory views same stop h =
        absurd (stopped_early w fr past history (suc j) at h.behaves)
    goes_along (Made {fr = fr} {start = start} {history = history} {m = m} a left q inner ok rest) w past j at standing memory views same (child k x d u) h =
        let asked = asking_child w fr past history (suc j) a start left m k x d u memory views at q h in
        let ask = same_some (Ask FrameEnv) (next p inputs w past) _ _ asked.asks h.behaves.0 in
        absurd (invoked (named_event p w a (answer_to fr m a)) k x (inner_asks p w (suc j) a (answer_to fr m a) inner ∙ ask))
    goes_along (Made {fr = fr} {start = start} {history = history} {m = m} {r = r} {es = es} {end = end} a left q inner ok rest) w past j at standing memory views same (act e u) h =
        let x = named_event p w a (answer_to fr m a) in
        let there = asked_there p inputs well whole w fr history start left a standing.stands q in
        let asked = asking_act w fr past history (suc j) a start left m e u memory views at q h in
        let is : ask_of e ≡ named_ask p w (suc j) a = same_some (Ask FrameEnv) (next p inputs w past) _ _ h.behaves.0 asked.asks in
        let word = set_word p w (suc j) fr m a e inner is h.words.0 in
        let f = act_follows p whole w fr standing.stands m memory views same a there inner word in
        let ask : ask_of e ≡ ask_of x = is ∙ sym (inner_asks p w (suc j) a (answer_to fr m a) inner) in
        let one : e ≡ x = same_event monoid_of memory views e x ask h.reads.0 f.right h.values.0 f.view_right in
        let on = subst (λ (z : Happens). Goes w (past ++ Does z ∷ []) u (λ c. put z c (memory c)) (λ i. on_view (monoid_of i) i z (views i)) start (with_store m (stored p fr m a))) one
        (goes_act w past e u memory views start m (stored p fr m a) h) in
        let tail = goes_along rest w (past ++ Does x ∷ []) j (at_act w fr past history (suc j) m a inner at)
        (standing_act p inputs well whole w fr j a (answer_to fr m a) r (counts_of m) standing)
        (λ c. put x c (memory c)) (λ i. on_view (monoid_of i) i x (views i)) f.same u on in
        subst (λ (z : Happens). EndsAs end w past start (event_of fr m a ∷ es) (act x (named_from p w (suc j) r)) (act z u)) (sym one)
        (ends_act end w past start x (event_of fr m a) es (named_from p w (suc j) r) u word tail)
    goes_along (Ended {fr = fr} {history = history} v left q ok) w past j at standing memory views same stop h =
        absurd (stopped_early w fr past history (suc j) at h.behaves)
    goes_along (Ended {fr = fr} {start = start} {history = history} {m = m} v left q ok) w past j at standing memory views same (child k x d u) h =
        let asked = asking_child w fr past history (suc j) (asks.End v) start left m k x d u memory views at q h in
        let ask = same_some (Ask FrameEnv) (next p inputs w past) _ _ asked.asks h.behaves.0 in
        absurd (invoked (Ends v (retired_by p w)) k x ask)
    goes_along (Ended {fr = fr} {start = start} {history = history} {m = m} v left q ok) w past j at standing memory views same (act e u) h =
        let x = Ends v (retired_by p w) in
        let asked = asking_act w fr past history (suc j) (asks.End v) start left m e u memory views at q h in
        let ask : ask_of e ≡ ask_of x = same_some (Ask FrameEnv) (next p inputs w past) _ _ h.behaves.0 asked.asks in
        let one : e ≡ x = same_event monoid_of memory views e x ask h.reads.0 tt h.values.0 tt in
        let last : u ≡ stop = over w past e v u one h.behaves.1 in
        let took = asked.took in
        let low = asked.low in
        let before = before_taken w past in
        (ap (λ (z : Happens). act z stop) (sym one) ∙ ap (λ (z : Run FrameEnv). act e z) (sym last), (tt, tt), omega (arith, took, low, before))
    goes_along (Went {fr = fr} {history = history} how callee left v left' m' q ok inner rest) w past j at standing memory views same stop h =
        absurd (stopped_early w fr past history (suc j) at h.behaves)
    goes_along (Went {fr = fr} {start = start} {history = history} {m = m} how callee left v left' m' q ok inner rest) w past j at standing memory views same (act e u) h =
        let asked = asking_act w fr past history (suc j) (asks.Invoke how callee) start left m e u memory views at q h in
        absurd (invoked e how (child_env p w (suc j) callee) (same_some (Ask FrameEnv) (next p inputs w past) _ _ h.behaves.0 asked.asks))
    goes_along (Went {fr = fr} {start = start} {history = history} {m = m} {u = t} {r = r} {es = es} {es' = es'} {end = end} how callee left v left' m' q ok inner rest) w past j at standing memory views same (child k x d u) h =
        let c = child_env p w (suc j) callee in
        let asked = asking_child w fr past history (suc j) (asks.Invoke how callee) start left m k x d u memory views at q h in
        let kind : k ≡ how = same_how FrameEnv k how x c (next p inputs w past) h.behaves.0 asked.asks in
        let what : x ≡ c = same_what FrameEnv k how x c (next p inputs w past) h.behaves.0 asked.asks in
        let h1 = subst (λ (z : Invocation). Goes w past (child z x d u) memory views start m) kind h in
        let h2 = subst (λ (z : FrameEnv). Goes w past (child how z d u) memory views start m) what h1 in
        let stands = standing_child p inputs well whole w fr j how callee t r m history start left standing q in
        let begin = at_begin c (next_frame p fr.scope m callee) refl in
        let goes = goes_inner w past how c callee d u memory views start left m refl asked.took asked.low h2 in
        let inside = goes_along inner c [] 0 begin stands memory views same d goes in
        let first : named_from p c 1 t ≡ d = inside.0 in
        let h3 = subst (λ (z : Run FrameEnv). Goes w past (child how c z u) memory views start m) (sym first) h2 in
        let one = run_remembers p whole inputs well inner c 0 stands inside.1 memory views same in
        let counts : counts_of m' ≡ counts_after p t (entered p callee (counts_of m)) = serial_counts inner in
        let on = goes_past w past how c callee (named_from p c 1 t) u memory views start left left' m m' (length es)
        (counts_after p t (entered p callee (counts_of m))) refl asked.took asked.low h3 inside.2 (serial_spends inner)
        (written_length (cell_number p whole) (instance_number p whole) (trace (named_from p c 1 t)) es one.written) counts
        (frames_weigh p inputs c [] 1 t (entered p callee (counts_of m))) (cells_weigh p inputs c [] 1 t (entered p callee (counts_of m))) in
        let tail = goes_along rest w (past ++ Invokes how c ∷ []) (suc j) (at_child w fr past history (suc j) how c at)
        (standing_past p inputs well whole w fr j how callee t r (counts_of m) (counts_of m') counts standing)
        (λ z. value_after (named_from p c 1 t) z (memory z)) (λ i. view_after (monoid_of i) i (named_from p c 1 t) (views i)) one.same u on in
        let told = invocation how (suc m.frames) ∷ (es ++ es') in
        let run = child how c (named_from p c 1 t) (named_from p w (suc (suc j)) r) in
        let ends = ends_child end w past start left left' how (suc m.frames) c es es' (named_from p c 1 t) (named_from p w (suc (suc j)) r) u
        asked.took asked.low inside.1 inside.2 tail in
        subst (λ (z : Invocation). EndsAs end w past start told run (child z x d u)) (sym kind)
        (subst (λ (z : FrameEnv). EndsAs end w past start told run (child how z d u)) (sym what)
        (subst (λ (z : Run FrameEnv). EndsAs end w past start told run (child how c z u)) first ends))
    goes_along (Broke {fr = fr} {history = history} how callee left f q ok inner) w past j at standing memory views same stop h =
        stopped_early w fr past history (suc j) at h.behaves
    goes_along (Broke {fr = fr} {start = start} {history = history} {m = m} how callee left f q ok inner) w past j at standing memory views same (act e u) h =
        let asked = asking_act w fr past history (suc j) (asks.Invoke how callee) start left m e u memory views at q h in
        invoked e how (child_env p w (suc j) callee) (same_some (Ask FrameEnv) (next p inputs w past) _ _ h.behaves.0 asked.asks)
    goes_along (Broke {fr = fr} {start = start} {history = history} {m = m} {u = t} how callee left f q ok inner) w past j at standing memory views same (child k x d u) h =
        let c = child_env p w (suc j) callee in
        let asked = asking_child w fr past history (suc j) (asks.Invoke how callee) start left m k x d u memory views at q h in
        let kind : k ≡ how = same_how FrameEnv k how x c (next p inputs w past) h.behaves.0 asked.asks in
        let what : x ≡ c = same_what FrameEnv k how x c (next p inputs w past) h.behaves.0 asked.asks in
        let h1 = subst (λ (z : Invocation). Goes w past (child z x d u) memory views start m) kind h in
        let h2 = subst (λ (z : FrameEnv). Goes w past (child how z d u) memory views start m) what h1 in
        let goes = goes_inner w past how c callee d u memory views start left m refl asked.took asked.low h2 in
        goes_along inner c [] 0 (at_begin c (next_frame p fr.scope m callee) refl)
        (standing_child p inputs well whole w fr j how callee t serial.stop m history start left standing q) memory views same d goes
    goes_along (Refused {fr = fr} {history = history} b left f q bad) w past j at standing memory views same stop h =
        stopped_early w fr past history (suc j) at h.behaves
    goes_along (Refused {fr = fr} {start = start} {history = history} {m = m} b left f q bad) w past j at standing memory views same (act e u) h =
        refused_act w fr past history (suc j) start left m b f e u memory views at q bad h
    goes_along (Refused {fr = fr} {start = start} {history = history} {m = m} b left f q bad) w past j at standing memory views same (child k x d u) h =
        refused_child w fr past history (suc j) start left m b f k x d u memory views at q bad h
