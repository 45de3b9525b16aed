-- A worked program along the plan of its run on one input. On two other inputs the event order
-- departs where the program's requests first differ.
use Rattle.std.specs.Prelude.{◌≡◌, ℤ, pos, true, false, List, [], ◌∷◌, take}
use Rattle.cilk_types.specs.declared.event.Event.{Event}
use Rattle.cilk_types.specs.declared.event.Event.TheVariants as events
use Rattle.cilk_types.specs.declared.invocation.Invocation.TheVariants.{Call}
use Rattle.cilk_program.specs.declared.ask.Ask.TheVariants as asks
use Rattle.cilk_program.specs.declared.ask.Callee.TheVariants as callees
use Rattle.cilk_program.specs.declared.syntax.Place.TheVariants as places
use Rattle.cilk_program.specs.SerialRun.{Transcript, stop, act, child}
use Rattle.cilk_program.specs.WorkedFrames.{filled}
use Rattle.cilk_tree.specs.declared.event_order.EventOrder.{EventOrder}
use Rattle.cilk_tree.specs.Planned.{planned}
use Rattle.cilk_replay.specs.EventOrders.{event_order_on}

-- `int a[7]; int main() { int n = input(0); cilk_for (int i = 0; i < n; i++) { a[i] = i; } return
-- a[6]; }` on input 1: one turn, which is called.
abbrev pub turn : Transcript
turn =
    act asks.Begin (pos 0) (act (asks.Write (places.Local 0 0) (pos 0)) (pos 0)
    (act (asks.Read (places.Local 0 0)) (pos 0) (act (asks.Read (places.Local 0 0)) (pos 0) (act (asks.Write (places.Global 0) (pos 0)) (pos 0)
    (act asks.Sync (pos 0) (act (asks.End (pos 0)) (pos 0) stop))))))

abbrev pub one_turn : Transcript
one_turn =
    act asks.Begin (pos 0) (act (asks.Write (places.Local 0 0) (pos 1)) (pos 0) (act (asks.Read (places.Local 0 0)) (pos 1)
    (child Call (callees.Loop (record { number = 0; up = 0; low = pos 0; high = pos 1 })) turn
    (act asks.Resume (pos 0) (act (asks.Read (places.Global 6)) (pos 0) (act asks.Sync (pos 0) (act (asks.End (pos 0)) (pos 0) stop)))))))

abbrev pub one_turn_events : List Event
one_turn_events =
    events.Begin 1 ∷ events.Write 7 (pos 1) ∷ events.Read 7 (pos 1)
    ∷ events.Call 2 ∷ events.Begin 2 ∷ events.Write 8 (pos 0) ∷ events.Read 8 (pos 0) ∷ events.Read 8 (pos 0) ∷ events.Write 0 (pos 0)
    ∷ events.Sync ∷ events.End ∷ events.Resume 1
    ∷ events.Read 6 (pos 0) ∷ events.Sync ∷ events.End ∷ []

abbrev pub all_zero : List ℤ
all_zero = pos 0 ∷ pos 0 ∷ pos 0 ∷ pos 0 ∷ pos 0 ∷ pos 0 ∷ pos 0 ∷ pos 0 ∷ pos 0 ∷ []

-- the event order of the program on input n, along that plan
abbrev pub filled_on : ℤ → EventOrder
filled_on n = event_order_on filled (n ∷ []) one_turn one_turn_events all_zero

-- On its own input it is the plan's. On 0 the loop has no turn: at position 4 the program requests
-- the read of `a[6]` instead of the call. On 2 the loop is the plan's with another bound: the call
-- is followed, and its frame begins, but at position 6 it requests a spawn instead of the write of
-- `i`.
pub record WorkedEventOrders : Type 0 where
  pub own : filled_on (pos 1) ≡ planned one_turn_events all_zero
  pub none : let s = filled_on (pos 0) in
      (take 3 s.events ≡ events.Begin 1 ∷ events.Write 7 (pos 0) ∷ events.Read 7 (pos 0) ∷ []) × (take 4 s.asked ≡ true ∷ true ∷ true ∷ false ∷ [])
  pub two : let s = filled_on (pos 2) in
      (take 5 s.events ≡ events.Begin 1 ∷ events.Write 7 (pos 2) ∷ events.Read 7 (pos 2) ∷ events.Call 2 ∷ events.Begin 2 ∷ [])
      × (take 6 s.asked ≡ true ∷ true ∷ true ∷ true ∷ true ∷ false ∷ [])
