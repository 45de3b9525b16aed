-- A run in progress has made a prefix of the serial run: from its completions to the whole.
--
-- kept_so_far    the events made are a prefix of those of the serial run
-- is_short       and are within the limit
-- ends           a run that has ended has the elision's outcome
-- begins_next    the callee of the frame that the next event begins, by the request
-- begins_none    after the end no frame begins
use Rattle.std.proofs.Common.{◌≡◌, ℕ, suc, ◌+◌, ◌-◌, ◌≤◌, ℤ, pos, IsTrue, List, [], ◌∷◌, ◌++◌, length, take, slice_get, Option, Some, None, refl, sym, ap, ◌∙◌, subst, arith, append_assoc, append-nil, length-append}
use Rattle.std.proofs.lemmas.Option.{slice_get_past}
use Rattle.cilk_types.specs.declared.event.Event.{Event}
use Rattle.cilk_types.specs.declared.event.Event.TheVariants as events
use Rattle.cilk_types.specs.declared.fault.Fault.{Fault}
use Rattle.cilk_types.specs.declared.outcome.Outcome.{Outcome}
use Rattle.cilk_types.specs.declared.limits.TheConstants.{MAX_EVENTS, MAX_TICKS}
use Rattle.cilk_program.specs.declared.ask.Ask.{Ask}
use Rattle.cilk_program.specs.declared.ask.Ask.TheVariants as asks
use Rattle.cilk_program.specs.declared.ask.Callee.{Callee}
use Rattle.cilk_program.specs.declared.ask.Callee.TheVariants.{Root}
use Rattle.cilk_types.specs.declared.invocation.Invocation.{Invocation}
use Rattle.cilk_types.specs.declared.invocation.Invocation.TheVariants.{Call, Spawn}
use Rattle.cilk_program.specs.Behaviour.{OpenAsk, asks_for, frame_asks}
use Rattle.cilk_program.specs.Outcomes.{Conclusion, finals_from}
use Rattle.cilk_program.specs.Syntax.{Source}
use Rattle.cilk_program.specs.WellNamed.{is_well_named}
use Rattle.cilk_program.specs.SerialRun.{Transcript, Frame, Memory, Ending, Finished, Stopped, Serial, Made, Ended, Went, Broke, Refused, IsInner, IsSerialRun, conclusion_of, event_of, global_reducer, invocation, refused, result_written}
use Rattle.cilk_program.proofs.Computed.{ran}
use Rattle.cilk_program.proofs.Existence.{none_some, ran_run, serial_run_is_short}
use Rattle.cilk_program.proofs.Uniqueness.{serial_run_is_one}
use Rattle.cilk_lower.specs.Code.{CodeView}
use Rattle.cilk_frames.specs.Following.{child_of}
use Rattle.cilk_serial.specs.declared.running.Running.{Running}
use Rattle.cilk_serial.specs.declared.serial_run.Stage.{Stage}
use Rattle.cilk_serial.specs.declared.serial_run.Stage.TheVariants as stages
use Rattle.cilk_serial.specs.declared.state.State.{State}
use Rattle.cilk_serial.specs.Going.{Whole, Completes, Going, HasEnded, Keeps}
use Rattle.cilk_serial.specs.Ran.{Ran}
use Rattle.cilk_serial.specs.Scoped.{Parent}
use Rattle.cilk_serial.specs.SoFar.{IsIntact, IsSoFar, BeginsNext, begun_in, callee_at, callees_of}
use Rattle.cilk_serial.proofs.Driving.{stopped_here}
use Rattle.cilk_serial.proofs.Endings.{leaves}

-- ---- the whole

-- a run that begins with these events and callees
record Completed (p : Source) (inputs : List ℤ) (es : List Event) (cs : List Callee) : Type 0 where
  rest : List Event
  more : List Callee
  end : Ending
  whole : Whole p inputs (es ++ rest) (cs ++ more) end

-- more was made
further : (p : Source) (inputs : List ℤ) (es es' : List Event) (cs cs' : List Callee)
    → Completed p inputs (es ++ es') (cs ++ cs') → Completed p inputs es cs
further p inputs es es' cs cs' c = record {
  rest = es' ++ c.rest;
  more = cs' ++ c.more;
  end = c.end;
  whole = subst (λ (l : List Event). Whole p inputs l (cs ++ (cs' ++ c.more)) c.end) (append_assoc es es' c.rest) (subst (λ (l : List Callee). Whole p inputs ((es ++ es') ++ c.rest) l c.end) (append_assoc cs cs' c.more) c.whole);
}

-- the waiting frames continue to their ends
completed : (p : Source) (inputs : List ℤ) (parents : List Parent) (es : List Event) (cs : List Callee) (end : Ending)
    → Completes p inputs parents es cs end → Completed p inputs es cs
completed p inputs [] es cs end whole = record {
  rest = [];
  more = [];
  end = end;
  whole = subst (λ (l : List Event). Whole p inputs l (cs ++ []) end) (sym (append-nil es)) (subst (λ (l : List Callee). Whole p inputs es l end) (sym (append-nil cs)) whole);
}
completed p inputs (q ∷ qs) es cs (Finished v left m) on =
    let w = ran p inputs (suc m.room) q.frame (left + q.took) (q.history ++ pos 0 ∷ []) m in
    let s = ran_run p inputs (suc m.room) q.frame (left + q.took) (q.history ++ pos 0 ∷ []) m (omega arith) in
    further p inputs es w.events cs (begun_in w.run) (completed p inputs qs (es ++ w.events) (cs ++ begun_in w.run) w.ending (on w.run w.events w.ending s))
completed p inputs (q ∷ qs) es cs (Stopped f) on = completed p inputs qs es cs (Stopped f) on

is_run : (p : Source) (inputs : List ℤ) (es : List Event) (cs : List Callee) (end : Ending)
    → (w : Whole p inputs es cs end) → IsSerialRun p inputs w.run es (conclusion_of p inputs end)
is_run p inputs es cs end w = (end, w.serial, refl)

so_far : (code : CodeView) (p : Source) (inputs : List ℤ) (r : Running) → Going code p inputs r
    → IsSoFar p inputs r.state.events.items
so_far code p inputs r g =
    let m = g.memory in
    let w = ran p inputs (suc m.room) g.frame (g.took + r.left) g.history m in
    let s = ran_run p inputs (suc m.room) g.frame (g.took + r.left) g.history m (omega arith) in
    let es = r.state.events.items in
    let c = further p inputs es w.events g.callees (begun_in w.run) (completed p inputs g.parents (es ++ w.events) (g.callees ++ begun_in w.run) w.ending (g.completes w.run w.events w.ending s)) in
    let whole = c.whole in
    record { run = whole.run; rest = c.rest; conclusion = conclusion_of p inputs c.end; serial = is_run p inputs (es ++ c.rest) (g.callees ++ c.more) c.end whole }

all_so_far : (p : Source) (inputs : List ℤ) (s : State) (v : ℤ) → HasEnded p inputs s v
    → IsSoFar p inputs s.events.items
all_so_far p inputs s v h =
    let end = Finished v h.left h.memory in
    let es = s.events.items in
    let whole = h.whole in
    record { run = whole.run; rest = []; conclusion = conclusion_of p inputs end; serial = subst (λ (l : List Event). IsSerialRun p inputs whole.run l (conclusion_of p inputs end)) (sym (append-nil es)) (is_run p inputs es h.callees end whole) }

pub kept_so_far : (code : CodeView) (p : Source) (inputs : List ℤ) (r : Running) (stage : Stage)
    → Keeps code p inputs r stage → IsIntact stage → IsSoFar p inputs r.state.events.items
kept_so_far code p inputs r stages.Going h intact = so_far code p inputs r h
kept_so_far code p inputs r (stages.Ended v) h intact = all_so_far p inputs r.state v h
kept_so_far code p inputs r stages.Failed h intact = absurd intact

-- the events are within the limit
pub is_short : (p : Source) (inputs : List ℤ) (es : List Event) → IsSoFar p inputs es → length es ≤ MAX_EVENTS
is_short p inputs es s =
    let rest = s.rest in
    let short = serial_run_is_short p inputs s.run (es ++ rest) s.conclusion s.serial in
    let sum = length-append es rest in
    omega (arith, short, sum)

-- ---- the end

pub ends : (p : Source) → IsTrue (is_well_named p) → (inputs : List ℤ) (s : State) (v : ℤ)
    → (h : HasEnded p inputs s v) → (o : Outcome) × Ran p inputs o s.events.items
ends p well inputs s v h =
    let m = h.memory in (
      record { result = v; globals = take (length p.openings) s.cells.items; output = s.output.items; reducers = finals_from global_reducer 0 p.reducers m.store },
      leaves p well inputs s v v (take (length p.openings) s.cells.items) s.output.items (finals_from global_reducer 0 p.reducers m.store) s.events.items h refl refl refl refl refl,
    )

-- ---- the frame that begins next

-- the part between two lists
between : {A : Type 0} (xs ys zs : List A) (y : A) → slice_get ((xs ++ y ∷ ys) ++ zs) (length xs) ≡ Some y
between [] ys zs y = refl
between (x ∷ xs) ys zs y = between xs ys zs y

same_some : {A : Type 0} {x y : A} → Some x ≡ Some y → x ≡ y
same_some e = cc

-- the first event of a frame, and the callee of the frame that it begins
record First (m : Memory) (k : Ask) (r : Transcript) (es : List Event) : Type 0 where
  event : Event
  later : List Event
  is_first : es ≡ event ∷ later
  begins : (cs more : List Callee) → suc (length cs) ≡ m.frames
      → callee_at (Root ∷ ((cs ++ begun_in r) ++ more)) event ≡ child_of k

writes_begin_none : (callees : List Callee) (o : Option ℕ) (v : ℤ) → callee_at callees (result_written o v) ≡ None
writes_begin_none callees None v = refl
writes_begin_none callees (Some c) v = refl

inner_begins_none : (callees : List Callee) (fr : Frame) (m : Memory) (k : Ask) → IsInner k
    → callee_at callees (event_of fr m k) ≡ child_of k
inner_begins_none callees fr m asks.Begin h = refl
inner_begins_none callees fr m (asks.Read x) h = refl
inner_begins_none callees fr m (asks.Write x v) h = refl
inner_begins_none callees fr m (asks.Create r) h = refl
inner_begins_none callees fr m (asks.Update r v) h = refl
inner_begins_none callees fr m (asks.Set r v) h = refl
inner_begins_none callees fr m (asks.Value r) h = refl
inner_begins_none callees fr m (asks.Print v) h = refl
inner_begins_none callees fr m (asks.Invoke how callee) h = absurd h
inner_begins_none callees fr m asks.Resume h = refl
inner_begins_none callees fr m asks.Sync h = refl
inner_begins_none callees fr m (asks.Result v) h = writes_begin_none callees fr.result v
inner_begins_none callees fr m (asks.End v) h = absurd h
inner_begins_none callees fr m (asks.Fault f) h = absurd h

invocation_begins : (how : Invocation) (n : ℕ) (callee : Callee) (cs ys more : List Callee) → suc (length cs) ≡ n
    → callee_at (Root ∷ ((cs ++ callee ∷ ys) ++ more)) (invocation how (suc n)) ≡ Some callee
invocation_begins Call n callee cs ys more e =
    let at : suc n - 1 ≡ suc (length cs) = omega (arith, e) in
    ap (slice_get (Root ∷ ((cs ++ callee ∷ ys) ++ more))) at ∙ between cs ys more callee
invocation_begins Spawn n callee cs ys more e =
    let at : suc n - 1 ≡ suc (length cs) = omega (arith, e) in
    ap (slice_get (Root ∷ ((cs ++ callee ∷ ys) ++ more))) at ∙ between cs ys more callee

first : {p : Source} {inputs : List ℤ} {fr : Frame} {start : ℕ} {history : List ℤ} {m : Memory} {r : Transcript} {es : List Event} {end : Ending}
    → Serial p inputs fr start history m r es end
    → (k : Ask) (left : ℕ) → frame_asks p inputs fr.callee history start ≡ asks_for k left → refused p m k ≡ None → First m k r es
first (Made {fr = fr} {m = m} {r = r} {es = es} k left q inner ok rest) k' left' q' ok' =
    let same : k ≡ k' = ap (λ (a : OpenAsk). a.ask) (sym q ∙ q') in
    record { event = event_of fr m k; later = es; is_first = refl; begins = λ cs more n. inner_begins_none (Root ∷ ((cs ++ begun_in r) ++ more)) fr m k inner ∙ ap child_of same }
first (Ended v left q ok) k' left' q' ok' =
    let same : asks.End v ≡ k' = ap (λ (a : OpenAsk). a.ask) (sym q ∙ q') in
    record { event = events.End; later = []; is_first = refl; begins = λ cs more n. ap child_of same }
first (Went {m = m} {u = u} {r = r} {es = es} {es' = es'} how callee left v left2 m2 q ok inner rest) k' left' q' ok' =
    let same : asks.Invoke how callee ≡ k' = ap (λ (a : OpenAsk). a.ask) (sym q ∙ q') in
    record { event = invocation how (suc m.frames); later = es ++ es'; is_first = refl; begins = λ cs more n. invocation_begins how m.frames callee cs (begun_in u ++ begun_in r) more n ∙ ap child_of same }
first (Broke {m = m} {u = u} {es = es} how callee left f q ok inner) k' left' q' ok' =
    let same : asks.Invoke how callee ≡ k' = ap (λ (a : OpenAsk). a.ask) (sym q ∙ q') in
    record { event = invocation how (suc m.frames); later = es; is_first = refl; begins = λ cs more n. invocation_begins how m.frames callee cs (begun_in u ++ []) more n ∙ ap child_of same }
first {p = p} (Refused {m = m} k left f q bad) k' left' q' ok' =
    let same : k ≡ k' = ap (λ (a : OpenAsk). a.ask) (sym q ∙ q') in
    none_some (sym bad ∙ ap (refused p m) same ∙ ok')

-- the same for another serial run of the same program
transferred : (p : Source) (inputs : List ℤ) (es : List Event) (cs : List Callee) (end : Ending)
    → (w : Whole p inputs es cs end) → (run : Transcript) (all : List Event) (c : Conclusion)
    → IsSerialRun p inputs run all c → (all ≡ es) × (callees_of run ≡ Root ∷ cs)
transferred p inputs es cs end w run all c s =
    let one = serial_run_is_one p inputs MAX_TICKS MAX_EVENTS run w.run all es c (conclusion_of p inputs end) s (is_run p inputs es cs end w) in
    (one.1, ap callees_of one.0 ∙ ap (λ (l : List Callee). Root ∷ l) w.begins)

-- no event follows these
no_event : (p : Source) (inputs : List ℤ) (es : List Event) (cs : List Callee) (end : Ending)
    → Whole p inputs es cs end → (o : Option Callee) → BeginsNext p inputs es o
no_event p inputs es cs end w o run all c e s at =
    none_some (sym at ∙ ap (λ (l : List Event). slice_get l (length es)) (transferred p inputs es cs end w run all c s).0 ∙ slice_get_past es (length es) (omega arith))

pub begins_none : (p : Source) (inputs : List ℤ) (s : State) (v : ℤ) → HasEnded p inputs s v
    → BeginsNext p inputs s.events.items None
begins_none p inputs s v h = no_event p inputs s.events.items h.callees (Finished v h.left h.memory) h.whole None

pub begins_next : (code : CodeView) (p : Source) (inputs : List ℤ) (r : Running) → Going code p inputs r
    → BeginsNext p inputs r.state.events.items (child_of r.ask)
begins_next code p inputs r g = by_refusal (refused p g.memory r.ask) refl
  where
    by_refusal : (o : Option Fault) → refused p g.memory r.ask ≡ o
        → BeginsNext p inputs r.state.events.items (child_of r.ask)
    by_refusal (Some f) bad = no_event p inputs r.state.events.items (g.callees ++ []) (Stopped f) (stopped_here code p inputs r f g (sym bad)) (child_of r.ask)
    by_refusal None ok = λ run all c e s at.
        let m = g.memory in
        let w = ran p inputs (suc m.room) g.frame (g.took + r.left) g.history m in
        let did = ran_run p inputs (suc m.room) g.frame (g.took + r.left) g.history m (omega arith) in
        let es = r.state.events.items in
        let made = completed p inputs g.parents (es ++ w.events) (g.callees ++ begun_in w.run) w.ending (g.completes w.run w.events w.ending did) in
        let here = first did r.ask r.left g.asking.asks ok in
        let is = transferred p inputs ((es ++ w.events) ++ made.rest) ((g.callees ++ begun_in w.run) ++ made.more) made.end made.whole run all c s in
        let event : Some here.event ≡ Some e = sym (between es here.later made.rest here.event) ∙ ap (λ (l : List Event). slice_get ((es ++ l) ++ made.rest) (length es)) (sym here.is_first) ∙ ap (λ (l : List Event). slice_get l (length es)) (sym is.0) ∙ at in
        ap (callee_at (callees_of run)) (sym (same_some event)) ∙ ap (λ (l : List Callee). callee_at l here.event) is.1 ∙ here.begins g.callees made.more g.numbered
