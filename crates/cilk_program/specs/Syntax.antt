-- Resolved programs as mathematical values, without their representation in memory.
use Rattle.std.specs.Prelude.{ℕ, ◌+◌, nat_lt, ℤ, pos, negsuc, if◌then◌else◌, List, [], ◌∷◌, Option, Some, None, slice_get, unwrap_or}
use Rattle.cilk_monoid.specs.declared.kind.MonoidKind.{MonoidKind}
use Rattle.cilk_program.specs.declared.syntax.Operator.{Operator}
use Rattle.cilk_types.specs.declared.compound.Compound.{Compound}
use Rattle.cilk_program.specs.declared.syntax.Place.{Place}
use Rattle.cilk_program.specs.declared.syntax.Place.TheVariants as places
use Rattle.cilk_program.specs.declared.syntax.Array.{Array}
use Rattle.cilk_program.specs.declared.syntax.Reducer.{Reducer}
use Rattle.cilk_program.specs.declared.syntax.ReducerPlace.{ReducerPlace}
use Rattle.cilk_program.specs.declared.syntax.ReducerPlace.TheVariants as reducers
use Rattle.cilk_types.specs.declared.invocation.Invocation.{Invocation}
use Rattle.cilk_program.specs.declared.program.Body.{Body}
use Rattle.cilk_program.specs.declared.program.Body.TheVariants as bodies

pub data Expression : Type 0 where
  Number : (value : ℤ) → Expression
  Variable : (place : Place) → Expression
  Element : (array : Array) (index : Expression) → Expression
  Negate : (inner : Expression) → Expression
  Not : (inner : Expression) → Expression
  Binary : (operator : Operator) (left : Expression) (right : Expression) → Expression
  And : (left : Expression) (right : Expression) → Expression
  Or : (left : Expression) (right : Expression) → Expression
  Value : (reducer : Reducer) → Expression
  Input : (place : Expression) → Expression
  InputCount : Expression

-- the target of an assignment
pub data Target : Type 0 where
  ToVariable : (place : Place) → Target
  ToElement : (array : Array) (index : Expression) → Target

-- a call or spawn of a function, and the variable that receives the result
pub record Invoke : Type 0 where
  pub how : Invocation
  pub function : ℕ
  pub arguments : List Expression
  pub reducers : List Reducer
  pub result : Option Place

-- one variable of a declaration, by its index among the frame's cells
pub data Declaration : Type 0 where
  Zero : (number : ℕ) → Declaration
  Opening : (number : ℕ) (value : Expression) → Declaration
  Invoking : (invoke : Invoke) → Declaration

mutual
  pub data Statement : Type 0 where
    Empty : Statement
    Block : (row : Statements) → Statement
    Declare : (declarations : List Declaration) → Statement
    Assign : (target : Target) (value : Expression) → Statement
    Change : (target : Target) (operator : Compound) (value : Expression) → Statement
    Step : (target : Target) (number : ℤ) → Statement
    Invokes : (invoke : Invoke) → Statement
    Sync : Statement
    If : (test : Expression) (first : Statement) → Statement
    IfElse : (test : Expression) (first : Statement) (second : Statement) → Statement
    For : (beginning : Statements) (test : Option Expression) (step : Statements) (body : Statement) → Statement
    ParallelFor : (low : Expression) (high : Expression) (loop : ℕ) → Statement
    Print : (value : Expression) → Statement
    Update : (reducer : Reducer) (value : Expression) → Statement
    Set : (reducer : Reducer) (value : Expression) → Statement
    Return : (value : Option Expression) → Statement

  pub data Statements : Type 0 where
    Nothing : Statements
    Then : (first : Statement) (row : Statements) → Statements

-- A function: the number of its word parameters, the monoids of its reducer parameters, the number
-- of its frame's cells (its words first), the monoids of the reducers that it declares, and its
-- body.
pub record Function : Type 0 where
  pub words : ℕ
  pub given : List MonoidKind
  pub cells : ℕ
  pub reducers : List MonoidKind
  pub body : Statements

-- A parallel loop: the body that contains it, the number of cells of a turn's frame (the loop's
-- variable first), and its body.
pub record Loop : Type 0 where
  pub within : Body
  pub cells : ℕ
  pub body : Statements

-- a program's meaning depends only on this
pub record Source : Type 0 where
  pub openings : List ℤ
  pub reducers : List MonoidKind
  pub functions : List Function
  pub loops : List Loop
  pub main : ℕ

-- a function that does nothing
abbrev pub idle : Function
idle = record { words = 0; given = []; cells = 0; reducers = []; body = Nothing }

abbrev pub function_at : Source → ℕ → Function
function_at p k = unwrap_or (slice_get p.functions k) idle

abbrev pub main_of : Source → Function
main_of p = function_at p p.main

-- a loop that does nothing
abbrev pub idle_loop : Loop
idle_loop = record { within = bodies.Function 0; cells = 0; body = Nothing }

abbrev pub loop_at : Source → ℕ → Loop
loop_at p n = unwrap_or (slice_get p.loops n) idle_loop

-- the element of an array at an index; none outside
abbrev pub element : Array → ℤ → Option Place
element a (pos n) = if nat_lt n a.length then Some (places.Global (a.first + n)) else None
element a (negsuc n) = None

-- the place of a target, given its index; none outside its array
abbrev pub place_of : Target → ℤ → Option Place
place_of (ToVariable x) i = Some x
place_of (ToElement a e) i = element a i

-- the index in a reducer's place
abbrev pub number_in : ReducerPlace → ℕ
number_in (reducers.Global n) = n
number_in (reducers.Own up n) = n
number_in (reducers.Given up n) = n
