-- Worked programs with reducers, with their events and outcomes.
use Rattle.std.specs.Prelude.{ℕ, ℤ, pos, negsuc, List, [], ◌∷◌, Some, None}
use Rattle.cilk_types.specs.declared.event.Event.TheVariants as event
use Rattle.cilk_types.specs.declared.event.Instance.{Instance}
use Rattle.cilk_types.specs.declared.outcome.Final.{Final}
use Rattle.cilk_types.specs.declared.outcome.Final.TheVariants as final
use Rattle.cilk_monoid.specs.declared.kind.MonoidKind.{MonoidKind}
use Rattle.cilk_monoid.specs.declared.kind.MonoidKind.TheVariants as kinds
use Rattle.cilk_program.specs.declared.syntax.Operator.TheVariants.{Add}
use Rattle.cilk_types.specs.declared.invocation.Invocation.TheVariants.{Call, Spawn}
use Rattle.cilk_program.specs.declared.syntax.Reducer.{Reducer}
use Rattle.cilk_program.specs.declared.syntax.ReducerPlace.TheVariants as reducers
use Rattle.cilk_program.specs.Syntax.{Source, Function, Binary, Value, Zero, Statement, Empty, Block, Declare, Sync, If, ParallelFor, Print, Update, Set}
use Rattle.cilk_program.specs.Outcomes.{Conclusion, Leaves}
use Rattle.cilk_program.specs.Worked.{Makes, EndsAfter, row, plain, leaving, num, own, local, global, set_global, set_local, returns}
use Rattle.cilk_program.specs.WorkedFrames.{begin, program, loop_in, of_word}

-- a function without parameters, whose frame has n cells and these reducers
abbrev pub reducing : ℕ → List MonoidKind → List Statement → Function
reducing cells kinds list = record { words = 0; given = []; cells = cells; reducers = kinds; body = row list }

-- the instance with this place in a frame
abbrev pub instance : ℕ → ℕ → Instance
instance frame place = record { frame = frame; place = place }

abbrev pub global_reducer : ℕ → MonoidKind → Reducer
global_reducer n kind = record { place = reducers.Global n; kind = kind }

abbrev pub own_reducer : ℕ → ℕ → MonoidKind → Reducer
own_reducer up n kind = record { place = reducers.Own up n; kind = kind }

abbrev pub given_reducer : ℕ → MonoidKind → Reducer
given_reducer n kind = record { place = reducers.Given 0 n; kind = kind }

-- a result, the global cells, the output and the global reducers
abbrev pub leaving_all : ℤ → List ℤ → List ℤ → List Final → Conclusion
leaving_all v globals output reducers = Leaves (record { result = v; globals = globals; output = output; reducers = reducers })

-- int cilk_reducer(append) l;
-- int main() { update(l, 4); set(l, 7); update(l, 8); print(value(l)); return 0; }
abbrev pub changed : Source
changed =
    let l = global_reducer 0 kinds.Append in
    program [] (kinds.Append ∷ []) (plain 0 (Update l (num 4) ∷ Set l (num 7) ∷ Update l (num 8) ∷ Print (Value l) ∷ returns (num 0) ∷ []) ∷ []) [] 0

-- 9 events
abbrev pub ChangedRuns : Type 0
ChangedRuns =
    Makes changed []
    (event.Begin 1 ∷ event.Create (instance 1 1) ∷ event.Update (instance 1 1) (pos 4) ∷ event.Set (instance 1 1) (pos 7) ∷ event.Update (instance 1 1) (pos 8) ∷ event.Value (instance 1 1) (pos 2) ∷ event.Print (pos 2)
    ∷ event.Sync ∷ event.End ∷ [])
    (leaving_all (pos 0) [] (pos 2 ∷ []) (final.List (pos 7 ∷ pos 8 ∷ []) ∷ []))

-- int cilk_reducer(add) s;
-- int main() { cilk_for (int i = 1; i < 101; i++) { update(s, i); } return value(s); }
abbrev pub hundred : Source
hundred =
    program [] (kinds.Add ∷ []) (plain 0 (ParallelFor (num 1) (num 101) 0 ∷ returns (Value (global_reducer 0 kinds.Add)) ∷ []) ∷ [])
    (loop_in 0 (Block (row (Update (global_reducer 0 kinds.Add) (local 0) ∷ [])) ∷ []) ∷ []) 0

-- 99 halvings of 7 events, 100 turns of 6 events, and 7 events of main
abbrev pub HundredRuns : Type 0
HundredRuns = EndsAfter 1300 200 hundred [] (leaving_all (pos 5050) [] [] (final.Number (pos 5050) ∷ []))

-- int cilk_reducer(append) l;
-- int main() { cilk_for (int i = 0; i < 5; i++) { update(l, i); } return value(l); }
abbrev pub ordered : Source
ordered =
    program [] (kinds.Append ∷ []) (plain 0 (ParallelFor (num 0) (num 5) 0 ∷ returns (Value (global_reducer 0 kinds.Append)) ∷ []) ∷ [])
    (loop_in 0 (Block (row (Update (global_reducer 0 kinds.Append) (local 0) ∷ [])) ∷ []) ∷ []) 0

-- 4 halvings of 7 events, 5 turns of 6 events, and 7 events of main
abbrev pub OrderedRuns : Type 0
OrderedRuns = EndsAfter 65 10 ordered [] (leaving_all (pos 5) [] [] (final.List (pos 0 ∷ pos 1 ∷ pos 2 ∷ pos 3 ∷ pos 4 ∷ []) ∷ []))

-- int cilk_reducer(add) r; void f() { update(r, 1); }
-- int main() { int x; cilk_spawn f(); x = value(r); cilk_sync; return x; }
abbrev pub read_early : Source
read_early =
    program [] (kinds.Add ∷ [])
    (plain 0 (Update (global_reducer 0 kinds.Add) (num 1) ∷ [])
    ∷ plain 1 (Declare (Zero 0 ∷ []) ∷ begin Spawn 0 [] [] None ∷ set_local 0 (Value (global_reducer 0 kinds.Add)) ∷ Sync ∷ returns (local 0) ∷ []) ∷ [])
    [] 1

-- the creation is at position 2, the read at position 10
abbrev pub ReadEarlyRuns : Type 0
ReadEarlyRuns =
    Makes read_early []
    (event.Begin 1 ∷ event.Create (instance 1 1) ∷ event.Write 0 (pos 0)
    ∷ event.Spawn 2 ∷ event.Begin 2 ∷ event.Update (instance 1 1) (pos 1) ∷ event.Sync ∷ event.End ∷ event.Resume 1
    ∷ event.Value (instance 1 1) (pos 1) ∷ event.Write 0 (pos 1) ∷ event.Sync ∷ event.Read 0 (pos 1) ∷ event.Sync ∷ event.End ∷ [])
    (leaving_all (pos 1) [] [] (final.Number (pos 1) ∷ []))

-- int f(int n) {
-- int cilk_reducer(add) s; cilk_for (int i = 0; i < n; i++) { update(s, i); } return value(s);
-- }
-- int main() { int x; int y; x = cilk_spawn f(4); y = cilk_spawn f(5); cilk_sync; return x + y; }
abbrev pub apart : Source
apart =
    program [] []
    (record {
      words = 1;
      given = [];
      cells = 1;
      reducers = kinds.Add ∷ [];
      body = row (Empty ∷ ParallelFor (num 0) (local 0) 0 ∷ returns (Value (own_reducer 0 0 kinds.Add)) ∷ []);
    }
    ∷ plain 2
    (Declare (Zero 0 ∷ []) ∷ Declare (Zero 1 ∷ []) ∷ begin Spawn 0 (num 4 ∷ []) [] (Some (own 0)) ∷ begin Spawn 0 (num 5 ∷ []) [] (Some (own 1)) ∷ Sync
    ∷ returns (Binary Add (local 0) (local 1)) ∷ []) ∷ [])
    (loop_in 0 (Block (row (Update (own_reducer 1 0 kinds.Add) (local 0) ∷ [])) ∷ []) ∷ []) 1

-- 3 and 4 halvings of 7 events, 4 and 5 turns of 6, 10 events of f twice, and 12 events of main
abbrev pub ApartRuns : Type 0
ApartRuns = EndsAfter 135 19 apart [] (leaving (pos 16) [] [])

-- int cilk_reducer(add) s; void u(int k) { update(s, k); }
-- int main() { cilk_spawn u(9223372036854775807); cilk_spawn u(1); cilk_spawn u(1); cilk_sync;
-- return value(s); }
abbrev pub wrapped : Source
wrapped =
    program [] (kinds.Add ∷ [])
    (of_word (Update (global_reducer 0 kinds.Add) (local 0) ∷ [])
    ∷ plain 0
    (begin Spawn 0 (num 9223372036854775807 ∷ []) [] None ∷ begin Spawn 0 (num 1 ∷ []) [] None ∷ begin Spawn 0 (num 1 ∷ []) [] None ∷ Sync
    ∷ returns (Value (global_reducer 0 kinds.Add)) ∷ []) ∷ [])
    [] 1

abbrev pub WrappedRuns : Type 0
WrappedRuns = EndsAfter 30 4 wrapped [] (leaving_all (negsuc 9223372036854775806) [] [] (final.Number (negsuc 9223372036854775806) ∷ []))

-- int cilk_reducer(min) m; int main() { return value(m); }
abbrev pub untouched : Source
untouched = program [] (kinds.Least ∷ []) (plain 0 (returns (Value (global_reducer 0 kinds.Least)) ∷ []) ∷ []) [] 0

abbrev pub UntouchedRuns : Type 0
UntouchedRuns =
    Makes untouched [] (event.Begin 1 ∷ event.Create (instance 1 1) ∷ event.Value (instance 1 1) (pos 9223372036854775807) ∷ event.Sync ∷ event.End ∷ [])
    (leaving_all (pos 9223372036854775807) [] [] (final.Number (pos 9223372036854775807) ∷ []))

-- void put(int cilk_reducer(append) l, int x) { update(l, x); }
-- int main() { int cilk_reducer(append) a; cilk_spawn put(a, 1); cilk_spawn put(a, 2); cilk_sync;
-- return value(a); }
abbrev pub lent : Source
lent =
    program [] []
    (record { words = 1; given = kinds.Append ∷ []; cells = 1; reducers = []; body = row (Update (given_reducer 0 kinds.Append) (local 0) ∷ []) }
    ∷ reducing 0 (kinds.Append ∷ [])
    (Empty ∷ begin Spawn 0 (num 1 ∷ []) (own_reducer 0 0 kinds.Append ∷ []) None ∷ begin Spawn 0 (num 2 ∷ []) (own_reducer 0 0 kinds.Append ∷ []) None ∷ Sync
    ∷ returns (Value (own_reducer 0 0 kinds.Append)) ∷ []) ∷ [])
    [] 1

-- 22 events
abbrev pub LentRuns : Type 0
LentRuns =
    Makes lent []
    (event.Begin 1 ∷ event.Create (instance 1 1)
    ∷ event.Spawn 2 ∷ event.Begin 2 ∷ event.Write 0 (pos 1) ∷ event.Read 0 (pos 1) ∷ event.Update (instance 1 1) (pos 1) ∷ event.Sync ∷ event.End ∷ event.Resume 1
    ∷ event.Spawn 3 ∷ event.Begin 3 ∷ event.Write 1 (pos 2) ∷ event.Read 1 (pos 2) ∷ event.Update (instance 1 1) (pos 2) ∷ event.Sync ∷ event.End ∷ event.Resume 1
    ∷ event.Sync ∷ event.Value (instance 1 1) (pos 2) ∷ event.Sync ∷ event.End ∷ [])
    (leaving (pos 2) [] [])

-- int peek(int cilk_reducer(add) r) { return value(r); }
-- int main() { int cilk_reducer(add) a; int x; x = cilk_spawn peek(a); cilk_sync; return x; }
abbrev pub peeked : Source
peeked =
    program [] []
    (record { words = 0; given = kinds.Add ∷ []; cells = 0; reducers = []; body = row (returns (Value (given_reducer 0 kinds.Add)) ∷ []) }
    ∷ reducing 1 (kinds.Add ∷ []) (Empty ∷ Declare (Zero 0 ∷ []) ∷ begin Spawn 0 [] (own_reducer 0 0 kinds.Add ∷ []) (Some (own 0)) ∷ Sync ∷ returns (local 0) ∷ []) ∷ [])
    [] 1

-- the creation is at position 2, the read at position 6
abbrev pub PeekedRuns : Type 0
PeekedRuns =
    Makes peeked []
    (event.Begin 1 ∷ event.Create (instance 1 1) ∷ event.Write 0 (pos 0)
    ∷ event.Spawn 2 ∷ event.Begin 2 ∷ event.Value (instance 1 1) (pos 0) ∷ event.Sync ∷ event.Write 0 (pos 0) ∷ event.End ∷ event.Resume 1
    ∷ event.Sync ∷ event.Read 0 (pos 0) ∷ event.Sync ∷ event.End ∷ [])
    (leaving (pos 0) [] [])

-- int cilk_reducer(affine) d;
-- int main() { cilk_for (int i = 1; i < 5; i++) { update(d, i); } return value(d); }
abbrev pub digits : Source
digits =
    program [] (kinds.Affine ∷ []) (plain 0 (ParallelFor (num 1) (num 5) 0 ∷ returns (Value (global_reducer 0 kinds.Affine)) ∷ []) ∷ [])
    (loop_in 0 (Block (row (Update (global_reducer 0 kinds.Affine) (local 0) ∷ [])) ∷ []) ∷ []) 0

-- 3 halvings of 7 events, 4 turns of 6 events, and 7 events of main
abbrev pub DigitsRun : Type 0
DigitsRun = EndsAfter 52 8 digits [] (leaving_all (pos 1234) [] [] (final.Number (pos 1234) ∷ []))

-- the same with the head `int i = 0; i < 20; i++` and `update(d, 9)`
abbrev pub nines : Source
nines =
    program [] (kinds.Affine ∷ []) (plain 0 (ParallelFor (num 0) (num 20) 0 ∷ returns (Value (global_reducer 0 kinds.Affine)) ∷ []) ∷ [])
    (loop_in 0 (Block (row (Update (global_reducer 0 kinds.Affine) (num 9) ∷ [])) ∷ []) ∷ []) 0

-- 19 halvings of 7 events, 20 turns of 5 events, and 7 events of main
abbrev pub NinesRun : Type 0
NinesRun = EndsAfter 240 40 nines [] (leaving_all (pos 7766279631452241919) [] [] (final.Number (pos 7766279631452241919) ∷ []))

-- int cilk_reducer(max) s; int g;
-- int main() { int cilk_reducer(add) t; int x; if (g) { return 0; } g = 1; update(t, 3); x =
-- main(); return value(t) + x; }
-- The first frame creates the global reducers before its own. Another frame of main creates only
-- its own.
abbrev pub again : Source
again =
    let t = own_reducer 0 0 kinds.Add in
    program (pos 0 ∷ []) (kinds.Greatest ∷ [])
    (reducing 1 (kinds.Add ∷ [])
    (Empty ∷ Declare (Zero 0 ∷ []) ∷ If (global 0) (Block (row (returns (num 0) ∷ []))) ∷ set_global 0 (num 1) ∷ Update t (num 3) ∷ begin Call 0 [] [] (Some (own 0))
    ∷ returns (Binary Add (Value t) (local 0)) ∷ []) ∷ [])
    [] 0

abbrev pub AgainRuns : Type 0
AgainRuns =
    Makes again []
    (event.Begin 1 ∷ event.Create (instance 1 1) ∷ event.Create (instance 1 2) ∷ event.Write 1 (pos 0) ∷ event.Read 0 (pos 0) ∷ event.Write 0 (pos 1) ∷ event.Update (instance 1 2) (pos 3)
    ∷ event.Call 2 ∷ event.Begin 2 ∷ event.Create (instance 2 1) ∷ event.Write 2 (pos 0) ∷ event.Read 0 (pos 1) ∷ event.Sync ∷ event.Write 1 (pos 0) ∷ event.End ∷ event.Resume 1
    ∷ event.Value (instance 1 2) (pos 3) ∷ event.Read 1 (pos 0) ∷ event.Sync ∷ event.End ∷ [])
    (leaving_all (pos 3) (pos 1 ∷ []) [] (final.Number (negsuc 9223372036854775807) ∷ []))
