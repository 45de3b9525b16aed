-- A worked program whose runs on two inputs make events of the same kinds, though one departs from the
-- plan of the other.
use Rattle.std.specs.Prelude.{◌≡◌, ℕ, ℤ, pos, true, false, List, [], ◌∷◌, Some, map, take}
use Rattle.cilk_types.specs.declared.event.Event.{Event}
use Rattle.cilk_types.specs.declared.event.Event.TheVariants as events
use Rattle.cilk_types.specs.declared.invocation.Invocation.TheVariants.{Call}
use Rattle.cilk_program.specs.declared.ask.Ask.TheVariants as asks
use Rattle.cilk_program.specs.declared.ask.Callee.TheVariants as callees
use Rattle.cilk_program.specs.SerialRun.{Transcript, stop, act, child, IsSerialRun}
use Rattle.cilk_program.specs.Syntax.{Source, Input, Zero, Declare, IfElse}
use Rattle.cilk_program.specs.Worked.{leaving, plain, num, own, local, returns}
use Rattle.cilk_program.specs.WorkedFrames.{begin, program}
use Rattle.cilk_tree.specs.Kinds.{kind_of}
use Rattle.cilk_replay.specs.EventOrders.{event_order_on}

-- int f() { return 1; } int g() { return 2; }
-- int main() { int x; if (input(0)) x = f(); else x = g(); return x; }
abbrev pub chosen : Source
chosen =
    program [] []
    (plain 0 (returns (num 1) ∷ []) ∷ plain 0 (returns (num 2) ∷ [])
    ∷ plain 1 (Declare (Zero 0 ∷ []) ∷ IfElse (Input (num 0)) (begin Call 0 [] [] (Some (own 0))) (begin Call 1 [] [] (Some (own 0))) ∷ returns (local 0) ∷ []) ∷ [])
    [] 2

-- the run that calls this function, which returns v
abbrev pub calls : ℕ → ℤ → Transcript
calls function v =
    act asks.Begin (pos 0) (act (asks.Write (own 0) (pos 0)) (pos 0)
    (child Call (callees.Function (record { function = function; words = []; reducers = []; result = Some (own 0) }))
    (act asks.Begin (pos 0) (act asks.Sync (pos 0) (act (asks.Result v) (pos 0) (act (asks.End v) (pos 0) stop))))
    (act asks.Resume (pos 0) (act (asks.Read (own 0)) v (act asks.Sync (pos 0) (act (asks.End v) (pos 0) stop))))))

abbrev pub calls_events : ℤ → List Event
calls_events v =
    events.Begin 1 ∷ events.Write 0 (pos 0) ∷ events.Call 2 ∷ events.Begin 2 ∷ events.Sync ∷ events.Write 0 v ∷ events.End ∷ events.Resume 1
    ∷ events.Read 0 v ∷ events.Sync ∷ events.End ∷ []

-- On 1 the program calls f, on 0 it calls g. Both runs make events of the same kinds, and yet on 0 the
-- event order along the run on 1 departs at the call.
pub record WorkedLikeRuns : Type 0 where
  pub one : IsSerialRun chosen (pos 1 ∷ []) (calls 0 (pos 1)) (calls_events (pos 1)) (leaving (pos 1) [] [])
  pub zero : IsSerialRun chosen (pos 0 ∷ []) (calls 1 (pos 2)) (calls_events (pos 2)) (leaving (pos 2) [] [])
  pub kinds : map kind_of (calls_events (pos 2)) ≡ map kind_of (calls_events (pos 1))
  pub departs : let s = event_order_on chosen (pos 0 ∷ []) (calls 0 (pos 1)) (calls_events (pos 1)) (pos 0 ∷ []) in take 3 s.asked ≡ true ∷ true ∷ false ∷ []
