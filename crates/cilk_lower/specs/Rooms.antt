-- The maximum number of operands on the stack of a body.
use Rattle.std.specs.Prelude.{◌≡◌, ℕ, ◌+◌, max, List, [], ◌∷◌, map, Option, Some, None}
use Rattle.cilk_program.specs.Syntax.{Expression, Number, Variable, Element, Negate, Not, Binary, And, Or, Value, Input, InputCount, Target, ToVariable, ToElement, Declaration, Zero, Opening, Invoking, Statement, Empty, Block, Declare, Assign, Change, Step, Invokes, Sync, If, IfElse, For, ParallelFor, Print, Update, Set, Return, Statements, Nothing, Then, Source, main_of}
use Rattle.cilk_lower.specs.Code.{CodeView}

-- the operands of an expression, its value included; the left operand stays below the right one
abbrev pub depth : Expression → ℕ
depth (Number n) = 1
depth (Variable x) = 1
depth (Element a e) = depth e
depth (Negate e) = depth e
depth (Not e) = depth e
depth (Binary op a b) = max (depth a) (depth b + 1)
depth (And a b) = max (depth a) (depth b)
depth (Or a b) = max (depth a) (depth b)
depth (Value r) = 1
depth (Input e) = depth e
depth InputCount = 1

abbrev pub optional_depth : Option Expression → ℕ
optional_depth None = 0
optional_depth (Some e) = depth e

-- the operands of several expressions, each above the values of those before it
abbrev pub depths : List Expression → ℕ
depths [] = 0
depths (e ∷ es) = max (depth e) (depths es + 1)

-- the operands of a target's index, if there is one
abbrev pub index_depth : Target → ℕ
index_depth (ToVariable x) = 0
index_depth (ToElement a e) = depth e

abbrev pub indices : Target → ℕ
indices (ToVariable x) = 0
indices (ToElement a e) = 1

abbrev pub declaration_depth : Declaration → ℕ
declaration_depth (Zero n) = 0
declaration_depth (Opening n e) = depth e
declaration_depth (Invoking i) = depths i.arguments

abbrev pub declarations_depth : List Declaration → ℕ
declarations_depth [] = 0
declarations_depth (d ∷ ds) = max (declaration_depth d) (declarations_depth ds)

abbrev mutual
  -- the maximum over the expressions of a statement
  pub deepest : Statement → ℕ
  deepest Empty = 0
  deepest (Block row) = deepest_of_all row
  deepest (Declare ds) = declarations_depth ds
  deepest (Assign t e) = max (index_depth t) (depth e + indices t)
  deepest (Change t op e) = max (index_depth t) (depth e + (indices t + 1))
  deepest (Step t n) = max (index_depth t) (indices t + 1)
  deepest (Invokes i) = depths i.arguments
  deepest Sync = 0
  deepest (If e s) = max (depth e) (deepest s)
  deepest (IfElse e s other) = max (depth e) (max (deepest s) (deepest other))
  deepest (For row test step s) = max (deepest_of_all row) (max (optional_depth test) (max (deepest s) (deepest_of_all step)))
  deepest (ParallelFor a b n) = max (depth a) (depth b + 1)
  deepest (Print e) = depth e
  deepest (Update r e) = depth e
  deepest (Set r e) = depth e
  deepest (Return e) = optional_depth e

  pub deepest_of_all : Statements → ℕ
  deepest_of_all Nothing = 0
  deepest_of_all (Then s row) = max (deepest s) (deepest_of_all row)

-- each frame has exactly the room that its body needs
pub record RoomsFit (p : Source) (c : CodeView) : Type 0 where
  pub root : let f = main_of p in c.root.room ≡ deepest_of_all f.body
  pub functions : map (λ e. e.room) c.functions ≡ map (λ f. deepest_of_all f.body) p.functions
  pub loops : map (λ e. e.room) c.loops ≡ map (λ l. deepest_of_all l.body) p.loops
