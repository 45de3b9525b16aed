-- The program whose loop squares four numbers of the input, and its runs along the plan of its run
-- on 1 2 3 4.
-- int a[4]; int main() { cilk_for (int i = 0; i < 4; i++) { a[i] = input(i) * input(i); }
--   return a[0] + a[3]; }
use Rattle.std.specs.Prelude.{ℕ, ℤ, pos, List, [], ◌∷◌}
use Rattle.cilk_types.specs.declared.invocation.Invocation.TheVariants.{Call, Spawn}
use Rattle.cilk_program.specs.declared.ask.Ask.TheVariants as asks
use Rattle.cilk_program.specs.declared.ask.Callee.{Callee}
use Rattle.cilk_program.specs.declared.ask.Callee.TheVariants as callees
use Rattle.cilk_program.specs.declared.syntax.Operator.TheVariants.{Add, Multiply}
use Rattle.cilk_program.specs.declared.syntax.Place.TheVariants as places
use Rattle.cilk_program.specs.SerialRun.{Transcript, stop, act, child}
use Rattle.cilk_program.specs.Syntax.{Source, Element, Binary, Input, ToElement, Assign, Block, ParallelFor}
use Rattle.cilk_program.specs.Worked.{row, plain, num, local, returns, array}
use Rattle.cilk_program.specs.WorkedFrames.{program, loop_in}
use Rattle.cilk_tree.specs.declared.event_order.EventOrder.{EventOrder}
use Rattle.cilk_replay.specs.EventOrders.{event_order_on}
use Rattle.cilk_thread_tests.specs.Others.{squares, squares_opening}

abbrev pub squared : Source
squared =
    program (pos 0 ∷ pos 0 ∷ pos 0 ∷ pos 0 ∷ []) []
    (plain 0 (ParallelFor (num 0) (num 4) 0 ∷ returns (Binary Add (Element (array 4) (num 0)) (Element (array 4) (num 3))) ∷ []) ∷ [])
    (loop_in 0 (Block (row (Assign (ToElement (array 4) (local 0)) (Binary Multiply (Input (local 0)) (Input (local 0))) ∷ [])) ∷ []) ∷ []) 0

abbrev pub between : ℕ → ℕ → ℕ → Callee
between up low high = callees.Loop (record { number = 0; up = up; low = pos low; high = pos high })

-- a frame of one turn, which writes this square
abbrev pub turn : ℕ → ℤ → Transcript
turn i square =
    act asks.Begin (pos 0) (act (asks.Write (places.Local 0 0) (pos i)) (pos 0)
    (act (asks.Read (places.Local 0 0)) (pos i) (act (asks.Read (places.Local 0 0)) (pos i) (act (asks.Read (places.Local 0 0)) (pos i)
    (act (asks.Write (places.Global i) square) (pos 0) (act asks.Sync (pos 0) (act (asks.End (pos 0)) (pos 0) stop)))))))

-- a frame that halves its turns
abbrev pub halves : ℕ → ℕ → ℕ → Transcript → Transcript → Transcript
halves low middle high first second =
    act asks.Begin (pos 0) (child Spawn (between 1 low middle) first
    (act asks.Resume (pos 0) (child Call (between 1 middle high) second
    (act asks.Resume (pos 0) (act asks.Sync (pos 0) (act (asks.End (pos 0)) (pos 0) stop))))))

abbrev pub squared_run : Transcript
squared_run =
    act asks.Begin (pos 0) (child Call (between 0 0 4)
    (halves 0 2 4 (halves 0 1 2 (turn 0 (pos 1)) (turn 1 (pos 4))) (halves 2 3 4 (turn 2 (pos 9)) (turn 3 (pos 16))))
    (act asks.Resume (pos 0) (act (asks.Read (places.Global 0)) (pos 1) (act (asks.Read (places.Global 3)) (pos 16)
    (act asks.Sync (pos 0) (act (asks.End (pos 17)) (pos 0) stop))))))

-- the event order of the program on these numbers along that plan
abbrev pub squared_on : List ℤ → EventOrder
squared_on numbers = event_order_on squared numbers squared_run (squares (pos 1) (pos 4) (pos 9) (pos 16)) squares_opening
