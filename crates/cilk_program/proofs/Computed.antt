-- The serial run, computed.
use Rattle.std.specs.Prelude.{ℕ, zero, suc, ◌+◌, ◌-◌, ℤ, pos, List, [], ◌∷◌, ◌++◌, Option, Some, None}
use Rattle.cilk_types.specs.declared.fault.Fault.{Fault}
use Rattle.cilk_types.specs.declared.fault.Fault.TheVariants.{TooManyEvents}
use Rattle.cilk_types.specs.declared.event.Event.{Event}
use Rattle.cilk_types.specs.declared.event.Event.TheVariants as events
use Rattle.cilk_program.specs.declared.ask.Ask.{Ask}
use Rattle.cilk_program.specs.declared.ask.Ask.TheVariants as asks
use Rattle.cilk_program.specs.declared.ask.Callee.{Callee}
use Rattle.cilk_program.specs.declared.ask.Callee.TheVariants as callees
use Rattle.cilk_types.specs.declared.invocation.Invocation.{Invocation}
use Rattle.cilk_program.specs.Syntax.{Source}
use Rattle.cilk_program.specs.Behaviour.{frame_asks}
use Rattle.cilk_program.specs.SerialRun.{Transcript, stop, act, child, Memory, Frame, answer_to, stored, event_of, invocation, refused, next_frame, begun, counted, with_store, Ending, Finished, Stopped, before_root, root_frame}

-- the run of a frame, its events, and how it ends
pub record Ran : Type 0 where
  pub run : Transcript
  pub events : List Event
  pub ending : Ending

abbrev pub broken : Fault → Ran
broken f = record { run = stop; events = []; ending = Stopped f }

-- a frame continues
abbrev pub Going : Type 0
Going = Frame → ℕ → List ℤ → Memory → Ran

module _ (p : Source) where
  -- an event, and then the frame continues
  abbrev pub made : Ask → Frame → ℕ → List ℤ → Memory → Going → Ran
  made k fr start history m go =
      let rest = go fr start (history ++ answer_to fr m k ∷ []) (with_store m (stored p fr m k)) in
      record { run = act k (answer_to fr m k) rest.run; events = event_of fr m k ∷ rest.events; ending = rest.ending }

  -- after a child has ended in this way, its parent continues
  abbrev pub joined : Ending → Transcript → List Event → Invocation → Callee → ℕ → Frame → ℕ → List ℤ → Memory → Going → Ran
  joined (Finished v left' m') u es how callee left fr start history m go =
      let rest = go fr (left' + (start - left)) (history ++ pos 0 ∷ []) m' in
      record { run = child how callee u rest.run; events = invocation how (suc m.frames) ∷ (es ++ rest.events); ending = rest.ending }
  joined (Stopped f) u es how callee left fr start history m go = record { run = child how callee u stop; events = invocation how (suc m.frames) ∷ es; ending = Stopped f }

  -- a child, and then the frame continues
  abbrev pub invoked : Invocation → Callee → ℕ → Frame → ℕ → List ℤ → Memory → Going → Ran
  invoked how callee left fr start history m go =
      let inner = go (next_frame p fr.scope m callee) left [] (begun p callee (counted m)) in
      joined inner.ending inner.run inner.events how callee left fr start history m go

  -- a request, with the fault that replaces its event, if any
  abbrev pub settled : Option Fault → Ask → ℕ → Frame → ℕ → List ℤ → Memory → Going → Ran
  settled (Some f) k left fr start history m go = broken f
  settled None asks.Begin left fr start history m go = made asks.Begin fr start history m go
  settled None (asks.Read x) left fr start history m go = made (asks.Read x) fr start history m go
  settled None (asks.Write x v) left fr start history m go = made (asks.Write x v) fr start history m go
  settled None (asks.Create r) left fr start history m go = made (asks.Create r) fr start history m go
  settled None (asks.Update r v) left fr start history m go = made (asks.Update r v) fr start history m go
  settled None (asks.Set r v) left fr start history m go = made (asks.Set r v) fr start history m go
  settled None (asks.Value r) left fr start history m go = made (asks.Value r) fr start history m go
  settled None (asks.Print v) left fr start history m go = made (asks.Print v) fr start history m go
  settled None (asks.Invoke how callee) left fr start history m go = invoked how callee left fr start history m go
  settled None asks.Resume left fr start history m go = made asks.Resume fr start history m go
  settled None asks.Sync left fr start history m go = made asks.Sync fr start history m go
  settled None (asks.Result v) left fr start history m go = made (asks.Result v) fr start history m go
  settled None (asks.End v) left fr start history m go =
      record { run = act (asks.End v) (pos 0) stop; events = events.End ∷ []; ending = Finished v left (with_store m (stored p fr m (asks.End v))) }
  settled None (asks.Fault f) left fr start history m go = broken f

  module _ (inputs : List ℤ) where
    -- the rest of a frame's run, at most n events deep
    abbrev pub ran : ℕ → Frame → ℕ → List ℤ → Memory → Ran
    ran zero fr start history m = broken TooManyEvents
    ran (suc n) fr start history m =
        let q = frame_asks p inputs fr.callee history start in
        settled (refused p m q.ask) q.ask q.left fr start history m (ran n)

    -- the serial run of a program within the given ticks and events
    abbrev pub ran_within : ℕ → ℕ → Ran
    ran_within ticks room = ran (suc room) (root_frame p inputs) ticks [] (begun p callees.Root (before_root p inputs room))
