-- The only serial run is the one that `ran` computes.
use Rattle.std.proofs.Common.{◌≡◌, ℕ, zero, suc, ◌+◌, ◌-◌, ◌<◌, ℤ, pos, List, [], ◌∷◌, ◌++◌, length, Option, Some, None, refl, sym, ap, ◌∙◌, subst, arith}
use Rattle.cilk_types.specs.declared.fault.Fault.{Fault}
use Rattle.cilk_types.specs.declared.event.Event.{Event}
use Rattle.cilk_types.specs.declared.event.Event.TheVariants as events
use Rattle.cilk_program.specs.declared.ask.Ask.{Ask}
use Rattle.cilk_program.specs.declared.ask.Ask.TheVariants as asks
use Rattle.cilk_program.specs.declared.ask.Callee.{Callee}
use Rattle.cilk_program.specs.declared.ask.Callee.TheVariants as callees
use Rattle.cilk_types.specs.declared.invocation.Invocation.{Invocation}
use Rattle.cilk_program.specs.Syntax.{Source}
use Rattle.cilk_program.specs.Outcomes.{Conclusion}
use Rattle.cilk_program.specs.Behaviour.{OpenAsk, asks_for, frame_asks}
use Rattle.cilk_program.specs.SerialRun.{Transcript, stop, act, child, Memory, Frame, answer_to, stored, event_of, invocation, refused, IsInner, next_frame, begun, counted, with_store, Ending, Finished, Stopped, Serial, Made, Ended, Went, Broke, Refused, before_root, root_frame, conclusion_of, IsSerialRunWithin}
use Rattle.cilk_program.specs.Runs.{HasSerialRun, HasOneSerialRun}
use Rattle.cilk_program.proofs.Computed.{Ran, Going, broken, made, joined, settled, ran, ran_within}
use Rattle.cilk_program.proofs.Existence.{room_for, serial_spends, ran_run}

-- a serial run is the computed one
pub record Is (r : Transcript) (es : List Event) (end : Ending) (w : Ran) : Type 0 where
  pub run_is : r ≡ w.run
  pub events_are : es ≡ w.events
  pub ending_is : end ≡ w.ending

itself : (w : Ran) → Is w.run w.events w.ending w
itself w = record { run_is = refl; events_are = refl; ending_is = refl }

module _ (p : Source) where
  made_is : (k : Ask) (fr : Frame) (start : ℕ) (history : List ℤ) (m : Memory) (go : Going) (r : Transcript) (es : List Event) (end : Ending)
      → Is r es end (go fr start (history ++ answer_to fr m k ∷ []) (with_store m (stored p fr m k))) → Is (act k (answer_to fr m k) r) (event_of fr m k ∷ es) end (made p k fr start history m go)
  made_is k fr start history m go r es end h = record { run_is = ap (act k (answer_to fr m k)) h.run_is; events_are = ap (λ es. event_of fr m k ∷ es) h.events_are; ending_is = h.ending_is }

  -- an event after which its frame continues
  inner_is : (k : Ask) (left : ℕ) (fr : Frame) (start : ℕ) (history : List ℤ) (m : Memory) (go : Going) (r : Transcript) (es : List Event) (end : Ending) → IsInner k
      → Is r es end (go fr start (history ++ answer_to fr m k ∷ []) (with_store m (stored p fr m k))) → Is (act k (answer_to fr m k) r) (event_of fr m k ∷ es) end (settled p None k left fr start history m go)
  inner_is asks.Begin left fr start history m go r es end inner h = made_is asks.Begin fr start history m go r es end h
  inner_is (asks.Read x) left fr start history m go r es end inner h = made_is (asks.Read x) fr start history m go r es end h
  inner_is (asks.Write x v) left fr start history m go r es end inner h = made_is (asks.Write x v) fr start history m go r es end h
  inner_is (asks.Create c) left fr start history m go r es end inner h = made_is (asks.Create c) fr start history m go r es end h
  inner_is (asks.Update c v) left fr start history m go r es end inner h = made_is (asks.Update c v) fr start history m go r es end h
  inner_is (asks.Set c v) left fr start history m go r es end inner h = made_is (asks.Set c v) fr start history m go r es end h
  inner_is (asks.Value c) left fr start history m go r es end inner h = made_is (asks.Value c) fr start history m go r es end h
  inner_is (asks.Print v) left fr start history m go r es end inner h = made_is (asks.Print v) fr start history m go r es end h
  inner_is (asks.Invoke how callee) left fr start history m go r es end inner h = absurd inner
  inner_is asks.Resume left fr start history m go r es end inner h = made_is asks.Resume fr start history m go r es end h
  inner_is asks.Sync left fr start history m go r es end inner h = made_is asks.Sync fr start history m go r es end h
  inner_is (asks.Result v) left fr start history m go r es end inner h = made_is (asks.Result v) fr start history m go r es end h
  inner_is (asks.End v) left fr start history m go r es end inner h = absurd inner
  inner_is (asks.Fault f) left fr start history m go r es end inner h = absurd inner

  -- if the run of a child is the computed one, so is that of its parent
  joined_is : (w : Ran) (u : Transcript) (es : List Event) (v : ℤ) (left' : ℕ) (m' : Memory) (how : Invocation) (callee : Callee) (left : ℕ) (fr : Frame) (start : ℕ) (history : List ℤ) (m : Memory) (go : Going) (r : Transcript) (es' : List Event) (end : Ending)
      → Is u es (Finished v left' m') w → Is r es' end (go fr (left' + (start - left)) (history ++ pos 0 ∷ []) m')
      → Is (child how callee u r) (invocation how (suc m.frames) ∷ (es ++ es')) end (joined p w.ending w.run w.events how callee left fr start history m go)
  joined_is w u es v left' m' how callee left fr start history m go r es' end inner rest =
      let head = invocation how (suc m.frames) in
      subst (λ d. Is (child how callee u r) (head ∷ (es ++ es')) end (joined p d w.run w.events how callee left fr start history m go)) inner.ending_is
      (subst (λ b. Is (child how callee b r) (head ∷ (es ++ es')) end (joined p (Finished v left' m') w.run w.events how callee left fr start history m go)) (sym inner.run_is)
      (subst (λ b. Is (child how callee w.run r) (head ∷ (b ++ es')) end (joined p (Finished v left' m') w.run w.events how callee left fr start history m go)) (sym inner.events_are)
      (record { run_is = ap (child how callee w.run) rest.run_is; events_are = ap (λ b. head ∷ (w.events ++ b)) rest.events_are; ending_is = rest.ending_is })))

  broke_is : (w : Ran) (u : Transcript) (es : List Event) (f : Fault) (how : Invocation) (callee : Callee) (left : ℕ) (fr : Frame) (start : ℕ) (history : List ℤ) (m : Memory) (go : Going)
      → Is u es (Stopped f) w → Is (child how callee u stop) (invocation how (suc m.frames) ∷ es) (Stopped f) (joined p w.ending w.run w.events how callee left fr start history m go)
  broke_is w u es f how callee left fr start history m go inner =
      let head = invocation how (suc m.frames) in
      subst (λ d. Is (child how callee u stop) (head ∷ es) (Stopped f) (joined p d w.run w.events how callee left fr start history m go)) inner.ending_is
      (record { run_is = ap (λ b. child how callee b stop) inner.run_is; events_are = ap (λ b. head ∷ b) inner.events_are; ending_is = refl })

  -- a known request, and whether it is refused
  at_ask : (inputs : List ℤ) (n : ℕ) (fr : Frame) (start : ℕ) (history : List ℤ) (m : Memory) (k : Ask) (left : ℕ) (o : Option Fault) (r : Transcript) (es : List Event) (end : Ending)
      → frame_asks p inputs fr.callee history start ≡ asks_for k left → refused p m k ≡ o
      → Is r es end (settled p o k left fr start history m (ran p inputs n)) → Is r es end (ran p inputs (suc n) fr start history m)
  at_ask inputs n fr start history m k left o r es end q known h =
      subst (λ (q : OpenAsk). Is r es end (settled p (refused p m q.ask) q.ask q.left fr start history m (ran p inputs n))) (sym q)
      (subst (λ o. Is r es end (settled p o k left fr start history m (ran p inputs n))) (sym known) h)

pub serial_is : (n : ℕ) {p : Source} {inputs : List ℤ} {fr : Frame} {start : ℕ} {history : List ℤ} {m : Memory} {r : Transcript} {es : List Event} {end : Ending} → m.room < n → Serial p inputs fr start history m r es end → Is r es end (ran p inputs n fr start history m)
serial_is zero {m = m} h s = absurd (omega (arith, h))
serial_is (suc n) {p = p} {inputs = inputs} h (Made {fr = fr} {start = start} {history = history} {m = m} {r = r} {es = es} {end = end} k left q inner ok rest) =
    let some = room_for p m k ok in
    at_ask p inputs n fr start history m k left None (act k (answer_to fr m k) r) (event_of fr m k ∷ es) end q ok
    (inner_is p k left fr start history m (ran p inputs n) r es end inner (serial_is n (omega (arith, h, some)) rest))
serial_is (suc n) {p = p} {inputs = inputs} h (Ended {fr = fr} {start = start} {history = history} {m = m} v left q ok) =
    at_ask p inputs n fr start history m (asks.End v) left None (act (asks.End v) (pos 0) stop) (events.End ∷ []) (Finished v left (with_store m (stored p fr m (asks.End v)))) q ok
    (itself (record { run = act (asks.End v) (pos 0) stop; events = events.End ∷ []; ending = Finished v left (with_store m (stored p fr m (asks.End v))) }))
serial_is (suc n) {p = p} {inputs = inputs} h (Went {fr = fr} {start = start} {history = history} {m = m} {u = u} {r = r} {es = es} {es' = es'} {end = end} how callee left v left' m' q ok inner rest) =
    let some = room_for p m (asks.Invoke how callee) ok in
    let spent : length es + m'.room ≡ m.room - 1 = serial_spends inner in
    at_ask p inputs n fr start history m (asks.Invoke how callee) left None (child how callee u r) (invocation how (suc m.frames) ∷ (es ++ es')) end q ok
    (joined_is p (ran p inputs n (next_frame p fr.scope m callee) left [] (begun p callee (counted m))) u es v left' m' how callee left fr start history m (ran p inputs n) r es' end
    (serial_is n (omega (arith, h, some)) inner) (serial_is n (omega (arith, h, some, spent)) rest))
serial_is (suc n) {p = p} {inputs = inputs} h (Broke {fr = fr} {start = start} {history = history} {m = m} {u = u} {es = es} how callee left f q ok inner) =
    let some = room_for p m (asks.Invoke how callee) ok in
    at_ask p inputs n fr start history m (asks.Invoke how callee) left None (child how callee u stop) (invocation how (suc m.frames) ∷ es) (Stopped f) q ok
    (broke_is p (ran p inputs n (next_frame p fr.scope m callee) left [] (begun p callee (counted m))) u es f how callee left fr start history m (ran p inputs n) (serial_is n (omega (arith, h, some)) inner))
serial_is (suc n) {p = p} {inputs = inputs} h (Refused {fr = fr} {start = start} {history = history} {m = m} k left f q bad) =
    at_ask p inputs n fr start history m k left (Some f) stop [] (Stopped f) q bad (itself (broken f))

pub run_within : (p : Source) (inputs : List ℤ) (ticks room : ℕ) → let w = ran_within p inputs ticks room in IsSerialRunWithin p inputs ticks room w.run w.events (conclusion_of p inputs w.ending)
run_within p inputs ticks room =
    let w = ran_within p inputs ticks room in
    (w.ending, ran_run p inputs (suc room) (root_frame p inputs) ticks [] (begun p callees.Root (before_root p inputs room)) (omega arith), refl)

-- a serial run is the one that is computed
pub record IsComputed (p : Source) (inputs : List ℤ) (ticks room : ℕ) (r : Transcript) (es : List Event) (c : Conclusion) : Type 0 where
  pub run_is : r ≡ (ran_within p inputs ticks room).run
  pub events_are : es ≡ (ran_within p inputs ticks room).events
  pub conclusion_is : c ≡ conclusion_of p inputs (ran_within p inputs ticks room).ending

pub is_computed : (p : Source) (inputs : List ℤ) (ticks room : ℕ) (r : Transcript) (es : List Event) (c : Conclusion) → IsSerialRunWithin p inputs ticks room r es c → IsComputed p inputs ticks room r es c
is_computed p inputs ticks room r es c (end, s, e) =
    let is = serial_is (suc room) (omega arith) s in
    record { run_is = is.run_is; events_are = is.events_are; conclusion_is = e ∙ ap (conclusion_of p inputs) is.ending_is }

pub serial_run_exists : (p : Source) (inputs : List ℤ) → HasSerialRun p inputs
serial_run_exists p inputs ticks room =
    let w = ran_within p inputs ticks room in
    (w.run, w.events, conclusion_of p inputs w.ending, run_within p inputs ticks room)

pub serial_run_is_one : (p : Source) (inputs : List ℤ) → HasOneSerialRun p inputs
serial_run_is_one p inputs ticks room r r' es es' c c' s s' =
    let one = is_computed p inputs ticks room r es c s in
    let two = is_computed p inputs ticks room r' es' c' s' in
    (one.run_is ∙ sym two.run_is, one.events_are ∙ sym two.events_are, one.conclusion_is ∙ sym two.conclusion_is)
