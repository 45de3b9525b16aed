-- Worked programs of one frame, with their events and outcomes.
use Rattle.std.specs.Prelude.{◌≡◌, ℕ, ◌-◌, ℤ, pos, negsuc, List, [], ◌∷◌, length, Some}
use Rattle.cilk_types.specs.declared.fault.Fault.TheVariants.{DivisionByZero, IndexOutside, InputOutside, TooManyEvents}
use Rattle.cilk_types.specs.declared.event.Event.{Event}
use Rattle.cilk_types.specs.declared.event.Event.TheVariants as event
use Rattle.cilk_types.specs.declared.outcome.Outcome.{Outcome}
use Rattle.cilk_program.specs.declared.ask.Callee.TheVariants as callees
use Rattle.cilk_program.specs.declared.syntax.Array.{Array}
use Rattle.cilk_program.specs.declared.syntax.Operator.{Operator}
use Rattle.cilk_program.specs.declared.syntax.Operator.TheVariants.{Add, Subtract, Multiply, Divide, Remainder, Less, LessEqual, Greater, GreaterEqual, Equal, NotEqual}
use Rattle.cilk_types.specs.declared.compound.Compound.TheVariants as compound
use Rattle.cilk_program.specs.declared.syntax.Place.{Place}
use Rattle.cilk_program.specs.declared.syntax.Place.TheVariants as place
use Rattle.cilk_program.specs.Syntax.{Source, Function, Expression, Number, Variable, Element, Negate, Not, Binary, And, Or, Input, InputCount, ToVariable, ToElement, Zero, Opening, Statement, Empty, Block, Declare, Assign, Change, Step, If, IfElse, For, Print, Return, Statements, Nothing, Then}
use Rattle.cilk_program.specs.Outcomes.{Conclusion, Leaves, StopsBy}
use Rattle.cilk_program.specs.SerialRun.{Transcript, IsSerialRun, IsSerialRunWithin}
use Rattle.cilk_program.specs.Numbering.{counts_after, entered, unbegun}

-- the program's serial run makes these events, and ends in this way
abbrev pub Makes : Source → List ℤ → List Event → Conclusion → Type 0
Makes p inputs es c = (r : Transcript) × IsSerialRun p inputs r es c

-- the same within the given ticks and events
abbrev pub MakesWithin : ℕ → ℕ → Source → List ℤ → List Event → Conclusion → Type 0
MakesWithin ticks room p inputs es c = (r : Transcript) × IsSerialRunWithin p inputs ticks room r es c

-- it makes n events in k frames, and ends in this way
abbrev pub EndsAfter : ℕ → ℕ → Source → List ℤ → Conclusion → Type 0
EndsAfter n frames p inputs c =
    (r : Transcript) × (es : List Event) × (length es ≡ n) × ((counts_after p r (entered p callees.Root (unbegun p))).frames ≡ frames) × IsSerialRun p inputs r es c

-- statements in order
abbrev pub row : List Statement → Statements
row [] = Nothing
row (s ∷ list) = Then s (row list)

-- a function without parameters or reducers of its own, whose frame has n cells
abbrev pub plain : ℕ → List Statement → Function
plain cells list = record { words = 0; given = []; cells = cells; reducers = []; body = row list }

-- a program of one function, over global cells with these values
abbrev pub single : List ℤ → ℕ → List Statement → Source
single openings cells list = record { openings = openings; reducers = []; functions = plain cells list ∷ []; loops = []; main = 0 }

-- a result, the global cells and the output
abbrev pub leaving : ℤ → List ℤ → List ℤ → Conclusion
leaving v globals output = Leaves (record { result = v; globals = globals; output = output; reducers = [] })

abbrev pub num : ℕ → Expression
num n = Number (pos n)

-- a variable of the frame itself
abbrev pub own : ℕ → Place
own n = place.Local 0 n

abbrev pub local : ℕ → Expression
local n = Variable (own n)

abbrev pub global : ℕ → Expression
global n = Variable (place.Global n)

abbrev pub set_global : ℕ → Expression → Statement
set_global n e = Assign (ToVariable (place.Global n)) e

abbrev pub set_local : ℕ → Expression → Statement
set_local n e = Assign (ToVariable (own n)) e

abbrev pub returns : Expression → Statement
returns e = Return (Some e)

abbrev pub while : Expression → Statement → Statement
while e s = For Nothing (Some e) Nothing s

-- int main() { return 0; }
abbrev pub nothing : Source
nothing = single [] 0 (returns (num 0) ∷ [])

abbrev pub NothingRuns : Type 0
NothingRuns = Makes nothing [] (event.Begin 1 ∷ event.Sync ∷ event.End ∷ []) (leaving (pos 0) [] [])

-- int g = 3; int main() { while (g) { print(g); g = g - 1; } return g; }
abbrev pub countdown : Source
countdown =
    single (pos 3 ∷ []) 0
    (while (global 0) (Block (row (Print (global 0) ∷ set_global 0 (Binary Subtract (global 0) (num 1)) ∷ [])))
    ∷ returns (global 0) ∷ [])

-- 20 events
abbrev pub CountdownRuns : Type 0
CountdownRuns =
    Makes countdown []
    (event.Begin 1
    ∷ event.Read 0 (pos 3) ∷ event.Read 0 (pos 3) ∷ event.Print (pos 3) ∷ event.Read 0 (pos 3) ∷ event.Write 0 (pos 2)
    ∷ event.Read 0 (pos 2) ∷ event.Read 0 (pos 2) ∷ event.Print (pos 2) ∷ event.Read 0 (pos 2) ∷ event.Write 0 (pos 1)
    ∷ event.Read 0 (pos 1) ∷ event.Read 0 (pos 1) ∷ event.Print (pos 1) ∷ event.Read 0 (pos 1) ∷ event.Write 0 (pos 0)
    ∷ event.Read 0 (pos 0) ∷ event.Read 0 (pos 0) ∷ event.Sync ∷ event.End ∷ [])
    (leaving (pos 0) (pos 0 ∷ []) (pos 3 ∷ pos 2 ∷ pos 1 ∷ []))

-- int main() { while (1) ; return 0; }
abbrev pub endless : Source
endless = single [] 0 (while (num 1) Empty ∷ returns (num 0) ∷ [])

abbrev pub EndlessStops : Type 0
EndlessStops = Makes endless [] (event.Begin 1 ∷ []) (StopsBy TooManyEvents)

-- the least word
abbrev pub least : ℤ
least = negsuc 9223372036854775807

-- int m;
-- int main() { m = -9223372036854775807 - 1; print(m / -1); print(m % -1); print(-7 / 2); print(-7
-- % 2); return m * 2; }
abbrev pub edges : Source
edges =
    single (pos 0 ∷ []) 0
    (set_global 0 (Binary Subtract (Negate (num 9223372036854775807)) (num 1))
    ∷ Print (Binary Divide (global 0) (Negate (num 1)))
    ∷ Print (Binary Remainder (global 0) (Negate (num 1)))
    ∷ Print (Binary Divide (Negate (num 7)) (num 2))
    ∷ Print (Binary Remainder (Negate (num 7)) (num 2))
    ∷ returns (Binary Multiply (global 0) (num 2)) ∷ [])

abbrev pub EdgesRun : Type 0
EdgesRun =
    Makes edges []
    (event.Begin 1
    ∷ event.Write 0 least ∷ event.Read 0 least ∷ event.Print least ∷ event.Read 0 least ∷ event.Print (pos 0)
    ∷ event.Print (negsuc 2) ∷ event.Print (negsuc 0) ∷ event.Read 0 least ∷ event.Sync ∷ event.End ∷ [])
    (leaving (pos 0) (least ∷ []) (least ∷ pos 0 ∷ negsuc 2 ∷ negsuc 0 ∷ []))

-- int main() {
-- int m = -9223372036854775807 - 1;
-- print(m / -1); print(m % -1); print(-7 / 2); print(-7 % 2); return m * 2;
-- }
abbrev pub local_edges : Source
local_edges =
    single [] 1
    (Declare (Opening 0 (Binary Subtract (Negate (num 9223372036854775807)) (num 1)) ∷ [])
    ∷ Print (Binary Divide (local 0) (Negate (num 1)))
    ∷ Print (Binary Remainder (local 0) (Negate (num 1)))
    ∷ Print (Binary Divide (Negate (num 7)) (num 2))
    ∷ Print (Binary Remainder (Negate (num 7)) (num 2))
    ∷ returns (Binary Multiply (local 0) (num 2)) ∷ [])

abbrev pub LocalEdgesRun : Type 0
LocalEdgesRun = EndsAfter 11 1 local_edges [] (leaving (pos 0) [] (least ∷ pos 0 ∷ negsuc 2 ∷ negsuc 0 ∷ []))

-- int main() { return 1 / 0; }
abbrev pub division_by_zero : Source
division_by_zero = single [] 0 (returns (Binary Divide (num 1) (num 0)) ∷ [])

abbrev pub DivisionByZeroStops : Type 0
DivisionByZeroStops = Makes division_by_zero [] (event.Begin 1 ∷ []) (StopsBy DivisionByZero)

-- int main() { return 0 && 1 / 0; }
abbrev pub skipped_division : Source
skipped_division = single [] 0 (returns (And (num 0) (Binary Divide (num 1) (num 0))) ∷ [])

abbrev pub SkippedDivisionRuns : Type 0
SkippedDivisionRuns = Makes skipped_division [] (event.Begin 1 ∷ event.Sync ∷ event.End ∷ []) (leaving (pos 0) [] [])

-- int main() { print(input(0)); return input(1); } on the input 5
abbrev pub short_input : Source
short_input = single [] 0 (Print (Input (num 0)) ∷ returns (Input (num 1)) ∷ [])

abbrev pub ShortInputStops : Type 0
ShortInputStops = Makes short_input (pos 5 ∷ []) (event.Begin 1 ∷ event.Print (pos 5) ∷ []) (StopsBy InputOutside)

-- prints each of these, and returns 0
abbrev pub printing : List Expression → List Statement
printing [] = returns (num 0) ∷ []
printing (e ∷ list) = Print e ∷ printing list

abbrev pub printed : List ℤ → List Event
printed [] = event.Sync ∷ event.End ∷ []
printed (v ∷ list) = event.Print v ∷ printed list

abbrev pub on_two : Operator → ℕ → ℕ → Expression
on_two op a b = Binary op (num a) (num b)

-- 1 / 0
abbrev pub faulty : Expression
faulty = on_two Divide 1 0

-- each operator; the second sum wraps, and the operands with a fault are skipped
abbrev pub each_operator : List Expression
each_operator =
    on_two Add 1 2 ∷ on_two Add 9223372036854775807 1 ∷ on_two Subtract 5 7 ∷ Binary Multiply (num 3) (Negate (num 4)) ∷ on_two Divide 7 2 ∷ Binary Remainder (num 7) (Negate (num 2))
    ∷ on_two Less 1 2 ∷ on_two Less 2 2 ∷ Binary Less (Negate (num 1)) (num 0) ∷ on_two LessEqual 2 2 ∷ on_two LessEqual 3 2 ∷ on_two Greater 2 1 ∷ on_two Greater 2 2 ∷ on_two GreaterEqual 2 2 ∷ on_two GreaterEqual 1 2
    ∷ on_two Equal 4 4 ∷ on_two Equal 4 5 ∷ on_two NotEqual 4 4 ∷ on_two NotEqual 4 5
    ∷ Not (num 5) ∷ Not (num 0) ∷ And (num 2) (num 3) ∷ And (num 2) (num 0) ∷ And (num 0) faulty ∷ Or (num 0) (num 4) ∷ Or (num 0) (num 0) ∷ Or (num 3) faulty
    ∷ InputCount ∷ Input (num 1) ∷ []

abbrev pub operator_values : List ℤ
operator_values =
    pos 3 ∷ least ∷ negsuc 1 ∷ negsuc 11 ∷ pos 3 ∷ pos 1
    ∷ pos 1 ∷ pos 0 ∷ pos 1 ∷ pos 1 ∷ pos 0 ∷ pos 1 ∷ pos 0 ∷ pos 1 ∷ pos 0
    ∷ pos 1 ∷ pos 0 ∷ pos 0 ∷ pos 1
    ∷ pos 0 ∷ pos 1 ∷ pos 1 ∷ pos 0 ∷ pos 0 ∷ pos 1 ∷ pos 0 ∷ pos 1
    ∷ pos 2 ∷ pos 6 ∷ []

abbrev pub operators : Source
operators = single [] 0 (printing each_operator)

abbrev pub OperatorsRun : Type 0
OperatorsRun = Makes operators (pos 5 ∷ pos 6 ∷ []) (event.Begin 1 ∷ printed operator_values) (leaving (pos 0) [] operator_values)

-- g = g + n;
abbrev pub add_to : ℕ → Statement
add_to n = set_global 0 (Binary Add (global 0) (num n))

-- int g;
-- int main() { if (1) g = 1; if (0) g = 2; if (g) g = g + 10; else g = 3; if (0) g = 4; else g = g
-- + 100; while (1) { ; return g; print(9); } return 5; }
abbrev pub branches : Source
branches =
    single (pos 0 ∷ []) 0
    (If (num 1) (set_global 0 (num 1))
    ∷ If (num 0) (set_global 0 (num 2))
    ∷ IfElse (global 0) (add_to 10) (set_global 0 (num 3))
    ∷ IfElse (num 0) (set_global 0 (num 4)) (add_to 100)
    ∷ while (num 1) (Block (row (Empty ∷ returns (global 0) ∷ Print (num 9) ∷ [])))
    ∷ returns (num 5) ∷ [])

abbrev pub BranchesRun : Type 0
BranchesRun =
    Makes branches []
    (event.Begin 1 ∷ event.Write 0 (pos 1) ∷ event.Read 0 (pos 1) ∷ event.Read 0 (pos 1) ∷ event.Write 0 (pos 11) ∷ event.Read 0 (pos 11) ∷ event.Write 0 (pos 111) ∷ event.Read 0 (pos 111) ∷ event.Sync ∷ event.End ∷ [])
    (leaving (pos 111) (pos 111 ∷ []) [])

-- int g = 4; int h = 8; int main() { g = h; h = 9; }
abbrev pub no_return : Source
no_return = single (pos 4 ∷ pos 8 ∷ []) 0 (set_global 0 (global 1) ∷ set_global 1 (num 9) ∷ [])

abbrev pub NoReturnRuns : Type 0
NoReturnRuns = Makes no_return [] (event.Begin 1 ∷ event.Read 1 (pos 8) ∷ event.Write 0 (pos 8) ∷ event.Write 1 (pos 9) ∷ event.Sync ∷ event.End ∷ []) (leaving (pos 0) (pos 8 ∷ pos 9 ∷ []) [])

-- a global array of this length, from the first cell on
abbrev pub array : ℕ → Array
array length = record { first = 0; length = length }

-- int a[3];
-- int main() { for (int i = 0; i < 3; i++) a[i] += i + 1; a[1] -= 5; return a[0] + a[2]; }
abbrev pub sums : Source
sums =
    single (pos 0 ∷ pos 0 ∷ pos 0 ∷ []) 1
    (For (row (Declare (Opening 0 (num 0) ∷ []) ∷ [])) (Some (Binary Less (local 0) (num 3))) (row (Step (ToVariable (own 0)) (pos 1) ∷ []))
    (Change (ToElement (array 3) (local 0)) compound.Add (Binary Add (local 0) (num 1)))
    ∷ Change (ToElement (array 3) (num 1)) compound.Subtract (num 5)
    ∷ returns (Binary Add (Element (array 3) (num 0)) (Element (array 3) (num 2))) ∷ [])

abbrev pub SumsRun : Type 0
SumsRun =
    Makes sums []
    (event.Begin 1 ∷ event.Write 3 (pos 0)
    ∷ event.Read 3 (pos 0) ∷ event.Read 3 (pos 0) ∷ event.Read 0 (pos 0) ∷ event.Read 3 (pos 0) ∷ event.Write 0 (pos 1) ∷ event.Read 3 (pos 0) ∷ event.Write 3 (pos 1)
    ∷ event.Read 3 (pos 1) ∷ event.Read 3 (pos 1) ∷ event.Read 1 (pos 0) ∷ event.Read 3 (pos 1) ∷ event.Write 1 (pos 2) ∷ event.Read 3 (pos 1) ∷ event.Write 3 (pos 2)
    ∷ event.Read 3 (pos 2) ∷ event.Read 3 (pos 2) ∷ event.Read 2 (pos 0) ∷ event.Read 3 (pos 2) ∷ event.Write 2 (pos 3) ∷ event.Read 3 (pos 2) ∷ event.Write 3 (pos 3)
    ∷ event.Read 3 (pos 3) ∷ event.Read 1 (pos 2) ∷ event.Write 1 (negsuc 2) ∷ event.Read 0 (pos 1) ∷ event.Read 2 (pos 3) ∷ event.Sync ∷ event.End ∷ [])
    (leaving (pos 4) (pos 1 ∷ negsuc 2 ∷ pos 3 ∷ []) [])

-- int a[2]; int g; int main() { a[g - 1] = g; return 0; }
-- The index is checked after the right side has been evaluated.
abbrev pub index_outside : Source
index_outside = single (pos 0 ∷ pos 0 ∷ pos 0 ∷ []) 0 (Assign (ToElement (array 2) (Binary Subtract (global 2) (num 1))) (global 2) ∷ returns (num 0) ∷ [])

abbrev pub IndexOutsideStops : Type 0
IndexOutsideStops = Makes index_outside [] (event.Begin 1 ∷ event.Read 2 (pos 0) ∷ event.Read 2 (pos 0) ∷ []) (StopsBy IndexOutside)

-- int a[2]; int g; int main() { a[2] += g; return 0; }
-- The index is checked before the right side is evaluated.
abbrev pub change_outside : Source
change_outside = single (pos 0 ∷ pos 0 ∷ pos 0 ∷ []) 0 (Change (ToElement (array 2) (num 2)) compound.Add (global 2) ∷ returns (num 0) ∷ [])

abbrev pub ChangeOutsideStops : Type 0
ChangeOutsideStops = Makes change_outside [] (event.Begin 1 ∷ []) (StopsBy IndexOutside)

-- int a[2]; int g; int main() { return a[2]; }
abbrev pub read_outside : Source
read_outside = single (pos 0 ∷ pos 0 ∷ pos 0 ∷ []) 0 (returns (Element (array 2) (num 2)) ∷ [])

abbrev pub ReadOutsideStops : Type 0
ReadOutsideStops = Makes read_outside [] (event.Begin 1 ∷ []) (StopsBy IndexOutside)

-- int main() { for (int i = 0; i < 2; i++) { int x; print(x); x = 5; } return 0; }
-- A cell keeps its value until its declaration writes it.
abbrev pub redeclared : Source
redeclared =
    single [] 2
    (For (row (Declare (Opening 0 (num 0) ∷ []) ∷ [])) (Some (Binary Less (local 0) (num 2))) (row (Step (ToVariable (own 0)) (pos 1) ∷ []))
    (Block (row (Declare (Zero 1 ∷ []) ∷ Print (local 1) ∷ set_local 1 (num 5) ∷ [])))
    ∷ returns (num 0) ∷ [])

abbrev pub RedeclaredRuns : Type 0
RedeclaredRuns =
    Makes redeclared []
    (event.Begin 1 ∷ event.Write 0 (pos 0)
    ∷ event.Read 0 (pos 0) ∷ event.Write 1 (pos 0) ∷ event.Read 1 (pos 0) ∷ event.Print (pos 0) ∷ event.Write 1 (pos 5) ∷ event.Read 0 (pos 0) ∷ event.Write 0 (pos 1)
    ∷ event.Read 0 (pos 1) ∷ event.Write 1 (pos 0) ∷ event.Read 1 (pos 0) ∷ event.Print (pos 0) ∷ event.Write 1 (pos 5) ∷ event.Read 0 (pos 1) ∷ event.Write 0 (pos 2)
    ∷ event.Read 0 (pos 2) ∷ event.Sync ∷ event.End ∷ [])
    (leaving (pos 0) [] (pos 0 ∷ pos 0 ∷ []))

-- within these limits the program's serial run ends
abbrev pub EndsWithin : ℕ → ℕ → Source → List ℤ → Type 0
EndsWithin ticks room p inputs = (es : List Event) × (outcome : Outcome) × MakesWithin ticks room p inputs es (Leaves outcome)

-- within these limits the program's serial run has too many events
abbrev pub IsTooLong : ℕ → ℕ → Source → List ℤ → Type 0
IsTooLong ticks room p inputs = (es : List Event) × MakesWithin ticks room p inputs es (StopsBy TooManyEvents)

-- the program's serial run uses exactly these ticks and makes exactly these events
pub record Takes (ticks room : ℕ) (p : Source) (inputs : List ℤ) : Type 0 where
  pub ends : EndsWithin ticks room p inputs
  pub takes_ticks : IsTooLong (ticks - 1) room p inputs
  pub takes_events : IsTooLong ticks (room - 1) p inputs

abbrev pub TicksCount : Type 0
TicksCount = Takes 2 3 nothing [] × Takes 28 20 countdown [] × Takes 24 10 branches [] × Takes 114 32 operators (pos 5 ∷ pos 6 ∷ []) × Takes 42 30 sums []

-- A tick comes before its event. A fault of the program comes before the tick and before the check
-- for room.
abbrev pub FaultsInOrder : Type 0
FaultsInOrder =
    MakesWithin 1 20 countdown [] (event.Begin 1 ∷ []) (StopsBy TooManyEvents)
    × MakesWithin 2 20 countdown [] (event.Begin 1 ∷ event.Read 0 (pos 3) ∷ []) (StopsBy TooManyEvents)
    × MakesWithin 2 1 division_by_zero [] (event.Begin 1 ∷ []) (StopsBy TooManyEvents)
    × MakesWithin 3 1 division_by_zero [] (event.Begin 1 ∷ []) (StopsBy DivisionByZero)
