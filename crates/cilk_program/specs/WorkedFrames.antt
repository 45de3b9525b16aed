-- Worked programs with calls, spawns and parallel loops, with their events and outcomes.
use Rattle.std.specs.Prelude.{◌≡◌, ℕ, ℤ, pos, List, [], ◌∷◌, Option, Some, None}
use Rattle.cilk_types.specs.declared.fault.Fault.TheVariants.{DivisionByZero, IndexOutside, InputOutside, TooManyEvents, TooManyFrames, TooManyCells}
use Rattle.cilk_types.specs.declared.event.Event.TheVariants as event
use Rattle.cilk_monoid.specs.declared.kind.MonoidKind.{MonoidKind}
use Rattle.cilk_program.specs.declared.ask.Callee.{Callee}
use Rattle.cilk_program.specs.declared.ask.Callee.TheVariants as callees
use Rattle.cilk_program.specs.declared.program.Body.TheVariants as bodies
use Rattle.cilk_program.specs.declared.syntax.Operator.TheVariants.{Add, Subtract, Multiply, Divide, Less}
use Rattle.cilk_types.specs.declared.invocation.Invocation.{Invocation}
use Rattle.cilk_types.specs.declared.invocation.Invocation.TheVariants.{Call, Spawn}
use Rattle.cilk_program.specs.declared.syntax.Place.{Place}
use Rattle.cilk_program.specs.declared.syntax.Place.TheVariants as place
use Rattle.cilk_program.specs.declared.syntax.Reducer.{Reducer}
use Rattle.cilk_program.specs.Syntax.{Source, Function, Expression, Variable, Element, Binary, Input, ToVariable, ToElement, Zero, Opening, Statement, Block, Declare, Assign, Invokes, Sync, If, ParallelFor, Print, Loop}
use Rattle.cilk_program.specs.Store.{opening}
use Rattle.cilk_program.specs.Outcomes.{StopsBy}
use Rattle.cilk_program.specs.SerialRun.{Memory, crowded}
use Rattle.cilk_program.specs.Worked.{Makes, MakesWithin, EndsAfter, row, plain, leaving, num, own, local, global, set_global, set_local, returns, array}

-- a call or spawn of a function: how, which function, its arguments, and the variable that receives
-- the result
abbrev pub begin : Invocation → ℕ → List Expression → List Reducer → Option Place → Statement
begin how function arguments reducers result = Invokes (record { how = how; function = function; arguments = arguments; reducers = reducers; result = result })

-- functions over global cells and reducers, and the index of main
abbrev pub program : List ℤ → List MonoidKind → List Function → List Loop → ℕ → Source
program openings reducers functions loops main = record { openings = openings; reducers = reducers; functions = functions; loops = loops; main = main }

-- a loop in a function, whose only cell is the loop's variable
abbrev pub loop_in : ℕ → List Statement → Loop
loop_in function list = record { within = bodies.Function function; cells = 1; body = row list }

-- a function with one word parameter
abbrev pub of_word : List Statement → Function
of_word list = record { words = 1; given = []; cells = 1; reducers = []; body = row list }

-- a variable of the frame around this one
abbrev pub outer : ℕ → Place
outer n = place.Local 1 n

-- int one() { return 1; }
-- int main() { int x; int y; x = cilk_spawn one(); y = x; cilk_sync; return y; }
abbrev pub one : Source
one =
    program [] []
    (plain 0 (returns (num 1) ∷ [])
    ∷ plain 2 (Declare (Zero 0 ∷ []) ∷ Declare (Zero 1 ∷ []) ∷ begin Spawn 0 [] [] (Some (own 0)) ∷ set_local 1 (local 0) ∷ Sync ∷ returns (local 1) ∷ []) ∷ [])
    [] 1

-- 15 events
abbrev pub OneRuns : Type 0
OneRuns =
    Makes one []
    (event.Begin 1 ∷ event.Write 0 (pos 0) ∷ event.Write 1 (pos 0)
    ∷ event.Spawn 2 ∷ event.Begin 2 ∷ event.Sync ∷ event.Write 0 (pos 1) ∷ event.End ∷ event.Resume 1
    ∷ event.Read 0 (pos 1) ∷ event.Write 1 (pos 1) ∷ event.Sync ∷ event.Read 1 (pos 1) ∷ event.Sync ∷ event.End ∷ [])
    (leaving (pos 1) [] [])

-- int g = 7; int get() { return g; }
-- int main() { int x; int y; x = cilk_spawn get(); y = cilk_spawn get(); cilk_sync; return x + y; }
abbrev pub get : Source
get =
    program (pos 7 ∷ []) []
    (plain 0 (returns (global 0) ∷ [])
    ∷ plain 2
    (Declare (Zero 0 ∷ []) ∷ Declare (Zero 1 ∷ []) ∷ begin Spawn 0 [] [] (Some (own 0)) ∷ begin Spawn 0 [] [] (Some (own 1)) ∷ Sync
    ∷ returns (Binary Add (local 0) (local 1)) ∷ []) ∷ [])
    [] 1

-- 22 events
abbrev pub GetRuns : Type 0
GetRuns =
    Makes get []
    (event.Begin 1 ∷ event.Write 1 (pos 0) ∷ event.Write 2 (pos 0)
    ∷ event.Spawn 2 ∷ event.Begin 2 ∷ event.Read 0 (pos 7) ∷ event.Sync ∷ event.Write 1 (pos 7) ∷ event.End ∷ event.Resume 1
    ∷ event.Spawn 3 ∷ event.Begin 3 ∷ event.Read 0 (pos 7) ∷ event.Sync ∷ event.Write 2 (pos 7) ∷ event.End ∷ event.Resume 1
    ∷ event.Sync ∷ event.Read 1 (pos 7) ∷ event.Read 2 (pos 7) ∷ event.Sync ∷ event.End ∷ [])
    (leaving (pos 14) (pos 7 ∷ []) [])

-- int g; void put() { g = 1; }
-- int main() { cilk_spawn put(); cilk_spawn put(); cilk_sync; return g; }
abbrev pub put : Source
put =
    program (pos 0 ∷ []) []
    (plain 0 (set_global 0 (num 1) ∷ [])
    ∷ plain 0 (begin Spawn 0 [] [] None ∷ begin Spawn 0 [] [] None ∷ Sync ∷ returns (global 0) ∷ []) ∷ [])
    [] 1

-- the writes are at positions 4 and 10
abbrev pub PutRuns : Type 0
PutRuns =
    Makes put []
    (event.Begin 1
    ∷ event.Spawn 2 ∷ event.Begin 2 ∷ event.Write 0 (pos 1) ∷ event.Sync ∷ event.End ∷ event.Resume 1
    ∷ event.Spawn 3 ∷ event.Begin 3 ∷ event.Write 0 (pos 1) ∷ event.Sync ∷ event.End ∷ event.Resume 1
    ∷ event.Sync ∷ event.Read 0 (pos 1) ∷ event.Sync ∷ event.End ∷ [])
    (leaving (pos 1) (pos 1 ∷ []) [])

-- int a[7];
-- int main() { int n = input(0); cilk_for (int i = 0; i < n; i++) { a[i] = i; } return a[6]; }
abbrev pub filled : Source
filled =
    program (pos 0 ∷ pos 0 ∷ pos 0 ∷ pos 0 ∷ pos 0 ∷ pos 0 ∷ pos 0 ∷ []) []
    (plain 1 (Declare (Opening 0 (Input (num 0)) ∷ []) ∷ ParallelFor (num 0) (local 0) 0 ∷ returns (Element (array 7) (num 6)) ∷ []) ∷ [])
    (loop_in 0 (Block (row (Assign (ToElement (array 7) (local 0)) (local 0) ∷ [])) ∷ []) ∷ []) 0

-- no turn: 6 events
abbrev pub FilledByNone : Type 0
FilledByNone =
    Makes filled (pos 0 ∷ [])
    (event.Begin 1 ∷ event.Write 7 (pos 0) ∷ event.Read 7 (pos 0) ∷ event.Read 6 (pos 0) ∷ event.Sync ∷ event.End ∷ [])
    (leaving (pos 0) (pos 0 ∷ pos 0 ∷ pos 0 ∷ pos 0 ∷ pos 0 ∷ pos 0 ∷ pos 0 ∷ []) [])

-- one turn: 15 events
abbrev pub FilledByOne : Type 0
FilledByOne =
    Makes filled (pos 1 ∷ [])
    (event.Begin 1 ∷ event.Write 7 (pos 1) ∷ event.Read 7 (pos 1)
    ∷ event.Call 2 ∷ event.Begin 2 ∷ event.Write 8 (pos 0) ∷ event.Read 8 (pos 0) ∷ event.Read 8 (pos 0) ∷ event.Write 0 (pos 0) ∷ event.Sync ∷ event.End ∷ event.Resume 1
    ∷ event.Read 6 (pos 0) ∷ event.Sync ∷ event.End ∷ [])
    (leaving (pos 0) (pos 0 ∷ pos 0 ∷ pos 0 ∷ pos 0 ∷ pos 0 ∷ pos 0 ∷ pos 0 ∷ []) [])

-- seven turns: 99 events
abbrev pub FilledByAll : Type 0
FilledByAll = EndsAfter 99 14 filled (pos 7 ∷ []) (leaving (pos 6) (pos 0 ∷ pos 1 ∷ pos 2 ∷ pos 3 ∷ pos 4 ∷ pos 5 ∷ pos 6 ∷ []) [])

-- an eighth turn is outside the array: the fault is at position 98
abbrev pub FilledTooFar : Type 0
FilledTooFar = EndsAfter 97 16 filled (pos 8 ∷ []) (StopsBy IndexOutside)

abbrev pub FilledWithoutInput : Type 0
FilledWithoutInput = Makes filled [] (event.Begin 1 ∷ []) (StopsBy InputOutside)

-- int main() { int s = 0; cilk_for (int i = 0; i < 2; i++) { s = s + i; } return s; }
abbrev pub total : Source
total =
    program [] []
    (plain 1 (Declare (Opening 0 (num 0) ∷ []) ∷ ParallelFor (num 0) (num 2) 0 ∷ returns (local 0) ∷ []) ∷ [])
    (loop_in 0 (Block (row (Assign (ToVariable (outer 0)) (Binary Add (Variable (outer 0)) (local 0)) ∷ [])) ∷ []) ∷ []) 0

-- the halves' accesses to the sum are at positions 10 and 17
abbrev pub TotalRuns : Type 0
TotalRuns =
    Makes total []
    (event.Begin 1 ∷ event.Write 0 (pos 0) ∷ event.Call 2 ∷ event.Begin 2
    ∷ event.Spawn 3 ∷ event.Begin 3 ∷ event.Write 1 (pos 0) ∷ event.Read 0 (pos 0) ∷ event.Read 1 (pos 0) ∷ event.Write 0 (pos 0) ∷ event.Sync ∷ event.End ∷ event.Resume 2
    ∷ event.Call 4 ∷ event.Begin 4 ∷ event.Write 2 (pos 1) ∷ event.Read 0 (pos 0) ∷ event.Read 2 (pos 1) ∷ event.Write 0 (pos 1) ∷ event.Sync ∷ event.End ∷ event.Resume 2
    ∷ event.Sync ∷ event.End ∷ event.Resume 1 ∷ event.Read 0 (pos 1) ∷ event.Sync ∷ event.End ∷ [])
    (leaving (pos 1) [] [])

-- int t[4];
-- int main() { cilk_for (int i = 0; i < 2; i++) { cilk_for (int j = 0; j < 2; j++) { t[2 * i + j] =
-- 10 * i + j; } } return t[3]; }
abbrev pub nested : Source
nested =
    program (pos 0 ∷ pos 0 ∷ pos 0 ∷ pos 0 ∷ []) []
    (plain 0 (ParallelFor (num 0) (num 2) 0 ∷ returns (Element (array 4) (num 3)) ∷ []) ∷ [])
    (loop_in 0 (Block (row (ParallelFor (num 0) (num 2) 1 ∷ [])) ∷ [])
    ∷ record {
      within = bodies.Loop 0;
      cells = 1;
      body = row (Block (row (Assign (ToElement (array 4) (Binary Add (Binary Multiply (num 2) (Variable (outer 0))) (local 0))) (Binary Add (Binary Multiply (num 10) (Variable (outer 0))) (local 0)) ∷ [])) ∷ []);
    } ∷ []) 0

abbrev pub NestedRuns : Type 0
NestedRuns = EndsAfter 75 10 nested [] (leaving (pos 11) (pos 0 ∷ pos 1 ∷ pos 10 ∷ pos 11 ∷ []) [])

-- int d(int k) { return 6 / k; }
-- int main() { int x; int y; x = cilk_spawn d(2); y = cilk_spawn d(0); cilk_sync; return x + y; }
abbrev pub divided : Source
divided =
    program [] []
    (of_word (returns (Binary Divide (num 6) (local 0)) ∷ [])
    ∷ plain 2
    (Declare (Zero 0 ∷ []) ∷ Declare (Zero 1 ∷ []) ∷ begin Spawn 0 (num 2 ∷ []) [] (Some (own 0)) ∷ begin Spawn 0 (num 0 ∷ []) [] (Some (own 1)) ∷ Sync
    ∷ returns (Binary Add (local 0) (local 1)) ∷ []) ∷ [])
    [] 1

-- the fault is at position 16, in the second child
abbrev pub DividedStops : Type 0
DividedStops =
    Makes divided []
    (event.Begin 1 ∷ event.Write 0 (pos 0) ∷ event.Write 1 (pos 0)
    ∷ event.Spawn 2 ∷ event.Begin 2 ∷ event.Write 2 (pos 2) ∷ event.Read 2 (pos 2) ∷ event.Sync ∷ event.Write 0 (pos 3) ∷ event.End ∷ event.Resume 1
    ∷ event.Spawn 3 ∷ event.Begin 3 ∷ event.Write 3 (pos 0) ∷ event.Read 3 (pos 0) ∷ [])
    (StopsBy DivisionByZero)

-- void p(int n) { print(n); }
-- int main() { cilk_spawn p(1); cilk_spawn p(2); cilk_spawn p(3); cilk_sync; return 0; }
abbrev pub prints : Source
prints =
    program [] []
    (of_word (Print (local 0) ∷ [])
    ∷ plain 0 (begin Spawn 0 (num 1 ∷ []) [] None ∷ begin Spawn 0 (num 2 ∷ []) [] None ∷ begin Spawn 0 (num 3 ∷ []) [] None ∷ Sync ∷ returns (num 0) ∷ []) ∷ [])
    [] 1

-- 28 events
abbrev pub PrintsRun : Type 0
PrintsRun =
    Makes prints []
    (event.Begin 1
    ∷ event.Spawn 2 ∷ event.Begin 2 ∷ event.Write 0 (pos 1) ∷ event.Read 0 (pos 1) ∷ event.Print (pos 1) ∷ event.Sync ∷ event.End ∷ event.Resume 1
    ∷ event.Spawn 3 ∷ event.Begin 3 ∷ event.Write 1 (pos 2) ∷ event.Read 1 (pos 2) ∷ event.Print (pos 2) ∷ event.Sync ∷ event.End ∷ event.Resume 1
    ∷ event.Spawn 4 ∷ event.Begin 4 ∷ event.Write 2 (pos 3) ∷ event.Read 2 (pos 3) ∷ event.Print (pos 3) ∷ event.Sync ∷ event.End ∷ event.Resume 1
    ∷ event.Sync ∷ event.Sync ∷ event.End ∷ [])
    (leaving (pos 0) [] (pos 1 ∷ pos 2 ∷ pos 3 ∷ []))

-- int fib(int n) { if (n < 2) { return n; } int x; int y; x = cilk_spawn fib(n - 1); y = fib(n -
-- 2); cilk_sync; return x + y; }
-- int main() { int r; r = fib(10); return r; }
abbrev pub fib : Source
fib =
    program [] []
    (record {
      words = 1;
      given = [];
      cells = 3;
      reducers = [];
      body = row
          (If (Binary Less (local 0) (num 2)) (Block (row (returns (local 0) ∷ [])))
          ∷ Declare (Zero 1 ∷ []) ∷ Declare (Zero 2 ∷ [])
          ∷ begin Spawn 0 (Binary Subtract (local 0) (num 1) ∷ []) [] (Some (own 1))
          ∷ begin Call 0 (Binary Subtract (local 0) (num 2) ∷ []) [] (Some (own 2))
          ∷ Sync ∷ returns (Binary Add (local 1) (local 2)) ∷ []);
    }
    ∷ plain 1 (Declare (Zero 0 ∷ []) ∷ begin Call 0 (num 10 ∷ []) [] (Some (own 0)) ∷ returns (local 0) ∷ []) ∷ [])
    [] 1

-- 89 of the 177 calls of fib return at once
abbrev pub FibRuns : Type 0
FibRuns = EndsAfter 2126 178 fib [] (leaving (pos 55) [] [])

-- int f() { return 5; }
-- int main() { int x; cilk_for (int i = 0; i < 2; i++) { x = f(); } return x; }
-- The result is written through a static link.
abbrev pub linked : Source
linked =
    program [] []
    (plain 0 (returns (num 5) ∷ [])
    ∷ plain 1 (Declare (Zero 0 ∷ []) ∷ ParallelFor (num 0) (num 2) 0 ∷ returns (local 0) ∷ []) ∷ [])
    (loop_in 1 (Block (row (begin Call 0 [] [] (Some (outer 0)) ∷ [])) ∷ []) ∷ []) 1

abbrev pub LinkedRuns : Type 0
LinkedRuns =
    Makes linked []
    (event.Begin 1 ∷ event.Write 0 (pos 0) ∷ event.Call 2 ∷ event.Begin 2
    ∷ event.Spawn 3 ∷ event.Begin 3 ∷ event.Write 1 (pos 0) ∷ event.Call 4 ∷ event.Begin 4 ∷ event.Sync ∷ event.Write 0 (pos 5) ∷ event.End ∷ event.Resume 3 ∷ event.Sync ∷ event.End ∷ event.Resume 2
    ∷ event.Call 5 ∷ event.Begin 5 ∷ event.Write 2 (pos 1) ∷ event.Call 6 ∷ event.Begin 6 ∷ event.Sync ∷ event.Write 0 (pos 5) ∷ event.End ∷ event.Resume 5 ∷ event.Sync ∷ event.End ∷ event.Resume 2
    ∷ event.Sync ∷ event.End ∷ event.Resume 1 ∷ event.Read 0 (pos 5) ∷ event.Sync ∷ event.End ∷ [])
    (leaving (pos 5) [] [])

-- void f() { f(); } int main() { f(); return 0; }
-- It ends only by a limit.
abbrev pub deep : Source
deep = program [] [] (plain 0 (begin Call 0 [] [] None ∷ []) ∷ plain 0 (begin Call 0 [] [] None ∷ returns (num 0) ∷ []) ∷ []) [] 1

abbrev pub DeepStops : Type 0
DeepStops = MakesWithin 100 6 deep [] (event.Begin 1 ∷ event.Call 2 ∷ event.Begin 2 ∷ event.Call 3 ∷ event.Begin 3 ∷ event.Call 4 ∷ []) (StopsBy TooManyEvents)

-- the memory when this number of frames has begun, with this number of cells and this room for
-- events
abbrev pub having : ℕ → ℕ → ℕ → Memory
having frames cells room = record { store = opening []; frames = frames; cells = cells; room = room }

-- a frame of three cells
abbrev pub three_cells : Callee
three_cells = callees.Function (record { function = 0; words = pos 1 ∷ []; reducers = []; result = None })

-- the limit of events is checked first, then that of frames, then that of cells
abbrev pub LimitsInOrder : Type 0
LimitsInOrder =
    (crowded fib three_cells (having 65535 1048573 1) ≡ None)
    × (crowded fib three_cells (having 65535 1048574 1) ≡ Some TooManyCells)
    × (crowded fib three_cells (having 65536 1048574 1) ≡ Some TooManyFrames)
    × (crowded fib three_cells (having 65536 1048574 0) ≡ Some TooManyEvents)
