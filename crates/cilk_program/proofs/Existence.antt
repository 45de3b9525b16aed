-- The serial run is the one that `ran` computes.
use Rattle.std.proofs.Common.{◌≡◌, ℕ, zero, suc, ◌+◌, ◌-◌, ◌<◌, ◌≤◌, Bool, true, false, nat_eq, nat_lt, if◌then◌else◌, ℤ, pos, List, [], ◌∷◌, ◌++◌, length, Option, Some, None, refl, ap, subst, length-append, arith}
use Rattle.cilk_types.specs.declared.fault.Fault.{Fault}
use Rattle.cilk_types.specs.declared.fault.Fault.TheVariants.{TooManyEvents, TooManyFrames, TooManyCells}
use Rattle.cilk_types.specs.declared.event.Event.{Event}
use Rattle.cilk_types.specs.declared.limits.TheConstants.{MAX_EVENTS, MAX_FRAMES, MAX_CELLS}
use Rattle.cilk_program.specs.declared.ask.Ask.{Ask}
use Rattle.cilk_program.specs.declared.ask.Ask.TheVariants as asks
use Rattle.cilk_program.specs.declared.ask.Callee.{Callee}
use Rattle.cilk_types.specs.declared.invocation.Invocation.{Invocation}
use Rattle.cilk_program.specs.Syntax.{Source}
use Rattle.cilk_program.specs.Behaviour.{asks_for, frame_asks}
use Rattle.cilk_program.specs.SerialRun.{Transcript, Memory, Frame, cells_of, answer_to, stored, event_of, invocation, full, refused, IsInner, next_frame, begun, counted, with_store, Ending, Finished, Stopped, Serial, Made, Ended, Went, Broke, Refused}
use Rattle.cilk_program.specs.Runs.{IsShort}
use Rattle.cilk_program.proofs.Computed.{Ran, Going, made, joined, settled, ran}

pub none_some : {A : Type 0} {x : A} {X : Type 0} → Some x ≡ None → X
none_some {A} {x} {X} e = absurd (subst (λ (o : Option A). elim o as (λ _. Type 0) [ None ↦ ⊥ | Some y ↦ Unit {0} ]) e tt)

-- an event that isn't refused has room
roomy : (b : Bool) (room : ℕ) (o : Option Fault) → nat_eq room 0 ≡ b → (if b then Some TooManyEvents else o) ≡ None → 0 < room
roomy true room o e h = none_some h
roomy false zero o e h = none_some (ap (λ (b : Bool). if b then Some TooManyEvents else None) e)
roomy false (suc room) o e h = omega arith

full_room : (m : Memory) → full m ≡ None → 0 < m.room
full_room m h = roomy (nat_eq m.room 0) m.room None refl h

pub room_for : (p : Source) (m : Memory) (k : Ask) → refused p m k ≡ None → 0 < m.room
room_for p m asks.Begin h = full_room m h
room_for p m (asks.Read x) h = full_room m h
room_for p m (asks.Write x v) h = full_room m h
room_for p m (asks.Create r) h = full_room m h
room_for p m (asks.Update r v) h = full_room m h
room_for p m (asks.Set r v) h = full_room m h
room_for p m (asks.Value r) h = full_room m h
room_for p m (asks.Print v) h = full_room m h
room_for p m (asks.Invoke how callee) h = roomy (nat_eq m.room 0) m.room (if nat_lt m.frames MAX_FRAMES then (if nat_lt MAX_CELLS (m.cells + cells_of p callee) then Some TooManyCells else None) else Some TooManyFrames) refl h
room_for p m asks.Resume h = full_room m h
room_for p m asks.Sync h = full_room m h
room_for p m (asks.Result v) h = full_room m h
room_for p m (asks.End v) h = full_room m h
room_for p m (asks.Fault f) h = none_some h

-- n of the allowed events were made
abbrev pub Spends : ℕ → List Event → Ending → Type 0
Spends room es (Finished v left m) = length es + m.room ≡ room
Spends room es (Stopped f) = length es ≤ room

one_more : (room : ℕ) (e : Event) (es : List Event) (end : Ending) → 0 < room → Spends (room - 1) es end → Spends room (e ∷ es) end
one_more room e es (Finished v left m) h s = omega (arith, h, s)
one_more room e es (Stopped f) h s = omega (arith, h, s)

then_more : (room between : ℕ) (es es' : List Event) (end : Ending) → length es + between ≡ room → Spends between es' end → Spends room (es ++ es') end
then_more room between es es' (Finished v left m) h s = let l : length (es ++ es') ≡ length es + length es' = length-append es es' in omega (arith, h, s, l)
then_more room between es es' (Stopped f) h s = let l : length (es ++ es') ≡ length es + length es' = length-append es es' in omega (arith, h, s, l)

pub serial_spends : {p : Source} {inputs : List ℤ} {fr : Frame} {start : ℕ} {history : List ℤ} {m : Memory} {r : Transcript} {es : List Event} {end : Ending} → Serial p inputs fr start history m r es end → Spends m.room es end
serial_spends {p = p} (Made {fr = fr} {m = m} {es = es} {end = end} k left q inner ok rest) = one_more m.room (event_of fr m k) es end (room_for p m k ok) (serial_spends rest)
serial_spends {p = p} (Ended {m = m} v left q ok) = let h = room_for p m (asks.End v) ok in omega (arith, h)
serial_spends {p = p} (Went {m = m} {es = es} {es' = es'} {end = end} how callee left v left' m' q ok inner rest) =
    one_more m.room (invocation how (suc m.frames)) (es ++ es') end (room_for p m (asks.Invoke how callee) ok) (then_more (m.room - 1) m'.room es es' end (serial_spends inner) (serial_spends rest))
serial_spends {p = p} (Broke {m = m} {es = es} how callee left f q ok inner) = one_more m.room (invocation how (suc m.frames)) es (Stopped f) (room_for p m (asks.Invoke how callee) ok) (serial_spends inner)
serial_spends (Refused k left f q bad) = omega arith

module _ (p : Source) (inputs : List ℤ) where
  -- a run that is computed is a serial run
  abbrev IsRun : Frame → ℕ → List ℤ → Memory → Ran → Type 0
  IsRun fr start history m w = Serial p inputs fr start history m w.run w.events w.ending

  -- a run that continues with less room is a serial run
  abbrev Goes : ℕ → Going → Type 0
  Goes room go = (fr : Frame) (start : ℕ) (history : List ℤ) (m : Memory) → m.room < room → IsRun fr start history m (go fr start history m)

  made_run : (k : Ask) (left : ℕ) (fr : Frame) (start : ℕ) (history : List ℤ) (m : Memory) (go : Going) → frame_asks p inputs fr.callee history start ≡ asks_for k left → IsInner k → refused p m k ≡ None → Goes m.room go
      → IsRun fr start history m (made p k fr start history m go)
  made_run k left fr start history m go q inner ok h =
      let some = room_for p m k ok in
      Made k left q inner ok (h fr start (history ++ answer_to fr m k ∷ []) (with_store m (stored p fr m k)) (omega (arith, some)))

  joined_run : (end : Ending) (u : Transcript) (es : List Event) (how : Invocation) (callee : Callee) (left : ℕ) (fr : Frame) (start : ℕ) (history : List ℤ) (m : Memory) (go : Going)
      → frame_asks p inputs fr.callee history start ≡ asks_for (asks.Invoke how callee) left → refused p m (asks.Invoke how callee) ≡ None → Goes m.room go
      → Serial p inputs (next_frame p fr.scope m callee) left [] (begun p callee (counted m)) u es end
      → IsRun fr start history m (joined p end u es how callee left fr start history m go)
  joined_run (Finished v left' m') u es how callee left fr start history m go q ok h inner =
      let some = room_for p m (asks.Invoke how callee) ok in
      let spent : length es + m'.room ≡ m.room - 1 = serial_spends inner in
      Went how callee left v left' m' q ok inner (h fr (left' + (start - left)) (history ++ pos 0 ∷ []) m' (omega (arith, some, spent)))
  joined_run (Stopped f) u es how callee left fr start history m go q ok h inner = Broke how callee left f q ok inner

  settled_run : (o : Option Fault) (k : Ask) (left : ℕ) (fr : Frame) (start : ℕ) (history : List ℤ) (m : Memory) (go : Going) → frame_asks p inputs fr.callee history start ≡ asks_for k left → refused p m k ≡ o → Goes m.room go
      → IsRun fr start history m (settled p o k left fr start history m go)
  settled_run (Some f) k left fr start history m go q bad h = Refused k left f q bad
  settled_run None asks.Begin left fr start history m go q ok h = made_run asks.Begin left fr start history m go q tt ok h
  settled_run None (asks.Read x) left fr start history m go q ok h = made_run (asks.Read x) left fr start history m go q tt ok h
  settled_run None (asks.Write x v) left fr start history m go q ok h = made_run (asks.Write x v) left fr start history m go q tt ok h
  settled_run None (asks.Create r) left fr start history m go q ok h = made_run (asks.Create r) left fr start history m go q tt ok h
  settled_run None (asks.Update r v) left fr start history m go q ok h = made_run (asks.Update r v) left fr start history m go q tt ok h
  settled_run None (asks.Set r v) left fr start history m go q ok h = made_run (asks.Set r v) left fr start history m go q tt ok h
  settled_run None (asks.Value r) left fr start history m go q ok h = made_run (asks.Value r) left fr start history m go q tt ok h
  settled_run None (asks.Print v) left fr start history m go q ok h = made_run (asks.Print v) left fr start history m go q tt ok h
  settled_run None (asks.Invoke how callee) left fr start history m go q ok h =
      let some = room_for p m (asks.Invoke how callee) ok in
      let inner = go (next_frame p fr.scope m callee) left [] (begun p callee (counted m)) in
      joined_run inner.ending inner.run inner.events how callee left fr start history m go q ok h (h (next_frame p fr.scope m callee) left [] (begun p callee (counted m)) (omega (arith, some)))
  settled_run None asks.Resume left fr start history m go q ok h = made_run asks.Resume left fr start history m go q tt ok h
  settled_run None asks.Sync left fr start history m go q ok h = made_run asks.Sync left fr start history m go q tt ok h
  settled_run None (asks.Result v) left fr start history m go q ok h = made_run (asks.Result v) left fr start history m go q tt ok h
  settled_run None (asks.End v) left fr start history m go q ok h = Ended v left q ok
  settled_run None (asks.Fault f) left fr start history m go q ok h = none_some ok

  pub ran_run : (n : ℕ) (fr : Frame) (start : ℕ) (history : List ℤ) (m : Memory) → m.room < n → IsRun fr start history m (ran p inputs n fr start history m)
  ran_run zero fr start history m h = absurd (omega (arith, h))
  ran_run (suc n) fr start history m h =
      let q = frame_asks p inputs fr.callee history start in
      settled_run (refused p m q.ask) q.ask q.left fr start history m (ran p inputs n) refl refl (λ fr start history m' less. ran_run n fr start history m' (omega (arith, h, less)))

few : (room : ℕ) (es : List Event) (end : Ending) → Spends room es end → length es ≤ room
few room es (Finished v left m) s = omega (arith, s)
few room es (Stopped f) s = s

pub serial_run_is_short : (p : Source) (inputs : List ℤ) → IsShort p inputs
serial_run_is_short p inputs r es c (end, s, e) = few MAX_EVENTS es end (serial_spends s)
