-- Limits of a text: statements and parts of expressions are nested at most 64 deep, and an
-- expression has at most 256 operators. A token is past a limit if it begins something that is
-- nested deeper, or is an operator after the first 256 of its expression.
use Rattle.std.specs.Prelude.{◌≡◌, ℕ, ◌+◌, Bool, true, false, ◌||◌, if◌then◌else◌, nat_lt, List, [], ◌∷◌, Option, Some, None}
use Rattle.cilk_syntax.specs.declared.token.Kind.{Kind}
use Rattle.cilk_syntax.specs.declared.token.Kind.TheVariants as kinds
use Rattle.cilk_syntax.specs.declared.token.Token.{Token}
use Rattle.cilk_types.specs.declared.invocation.Invocation.{Invocation}
use Rattle.cilk_types.specs.declared.invocation.Invocation.TheVariants as invocations
use Rattle.cilk_syntax.specs.declared.tree.Initializer.{Initializer}
use Rattle.cilk_syntax.specs.declared.tree.Initializer.TheVariants as initializers
use Rattle.cilk_syntax.specs.declared.tree.GlobalVariable.{GlobalVariable}
use Rattle.cilk_syntax.specs.declared.tree.GlobalVariable.TheVariants as globals
use Rattle.cilk_syntax.specs.declared.tree.Parameter.{Parameter}
use Rattle.cilk_syntax.specs.declared.tree.Parameter.TheVariants as parameters
use Rattle.cilk_syntax.specs.Trees as trees
use Rattle.cilk_syntax.specs.Trees.{Expression, Number, Group, Unary, Binary, Input, InputCount, Argument, Call, Assignment, Local, LocalInitializer, Beginning, Statement, Statements, End, Then}

abbrev pub is_deep : ℕ → Bool
is_deep depth = nat_lt 64 depth

abbrev pub is_many : ℕ → Bool
is_many number = nat_lt 256 number

-- the number of operators in an expression, including its groups, its indexes and the places of its
-- inputs
abbrev pub operators : Expression → ℕ
operators (Number v) = 0
operators (Expression.Variable name) = 0
operators (Expression.Element name e) = operators e
operators (Group e) = operators e
operators (Unary op e) = operators e + 1
operators (Binary op a b) = operators a + 1 + operators b
operators (Expression.Value name) = 0
operators (Input e) = operators e
operators InputCount = 0

-- for each token that is left, whether it is past a limit
abbrev pub Flags : Type 0
Flags = List Token → List Bool

-- the flag of one token, and then more
abbrev pub flag : Bool → Flags → Flags
flag b more [] = []
flag b more (t ∷ ts) = b ∷ more ts

-- the first if the next token is of such a kind, else the second
abbrev pub where_next : (Kind → Bool) → Flags → Flags → Flags
where_next is first second [] = second []
where_next is first second (t ∷ ts) = if is t.kind then first (t ∷ ts) else second (t ∷ ts)

-- an expression at depth d, after n operators of the whole expression, and then more
abbrev pub excess : Expression → ℕ → ℕ → Flags → Flags
excess (Number v) d n more = flag (is_deep d) more
excess (Expression.Variable name) d n more = flag (is_deep d) more
excess (Expression.Element name e) d n more = flag (is_deep d) (flag false (excess e (d + 1) n (flag false more)))
excess (Group e) d n more = flag (is_deep d) (excess e (d + 1) n (flag false more))
excess (Unary op e) d n more = flag (is_deep d || is_many (n + 1)) (excess e (d + 1) (n + 1) more)
excess (Binary op a b) d n more =
    excess a d n (flag (is_many (n + operators a + 1)) (excess b d (n + operators a + 1) more))
excess (Expression.Value name) d n more = flag (is_deep d) (flag false (flag false (flag false more)))
excess (Input e) d n more = flag (is_deep d) (flag false (excess e (d + 1) n (flag false more)))
excess InputCount d n more = flag (is_deep d) (flag false (flag false more))

-- an expression between two tokens, whose operators are counted separately
abbrev pub excess_inside : Expression → ℕ → Flags → Flags
excess_inside e d more = flag false (excess e d 0 (flag false more))

-- an expression or none, and the token after it
abbrev pub excess_optional : Option Expression → ℕ → Flags → Flags
excess_optional None d more = flag false more
excess_optional (Some e) d more = excess e d 0 (flag false more)

-- further arguments, each after a comma
abbrev pub excess_arguments : List Argument → ℕ → Flags → Flags
excess_arguments [] d more = more
excess_arguments (a ∷ list) d more = flag false (excess a.value d 0 (excess_arguments list d more))

-- the rest of a call after its name
abbrev pub excess_called : List Argument → ℕ → Flags → Flags
excess_called [] d more = flag false (flag false more)
excess_called (a ∷ list) d more = flag false (excess a.value d 0 (excess_arguments list d (flag false more)))

-- a call or a spawn
abbrev pub excess_invoked : Invocation → Call → ℕ → Flags → Flags
excess_invoked invocations.Call c d more = flag (is_deep d) (excess_called c.arguments d more)
excess_invoked invocations.Spawn c d more = flag (is_deep d) (flag false (excess_called c.arguments d more))

-- the target of an assignment, where b is the flag of its first token
abbrev pub excess_place : trees.Lvalue → Bool → ℕ → Flags → Flags
excess_place (trees.Lvalue.Variable name) b d more = flag b more
excess_place (trees.Lvalue.Element name e) b d more = flag b (excess_inside e (d + 1) more)

abbrev pub is_step : Kind → Bool
is_step kinds.Increment = true
is_step kinds.Decrement = true
is_step _ = false

-- a place with `++` or `--` before or after it
abbrev pub excess_stepped : trees.Lvalue → Bool → ℕ → Flags → Flags
excess_stepped p b d more = where_next is_step (flag b (excess_place p false d more)) (excess_place p b d (flag false more))

abbrev pub excess_assignment : Assignment → Bool → ℕ → Flags → Flags
excess_assignment (Assignment.Set p e) b d more = excess_place p b d (flag false (excess e d 0 more))
excess_assignment (trees.Compound op p e) b d more = excess_place p b d (flag false (excess e d 0 more))
excess_assignment (trees.Increment p) b d more = excess_stepped p b d more
excess_assignment (trees.Decrement p) b d more = excess_stepped p b d more

abbrev pub excess_local_initializer : LocalInitializer → ℕ → Flags → Flags
excess_local_initializer trees.Absent d more = more
excess_local_initializer (LocalInitializer.Value e) d more = flag false (excess e d 0 more)
excess_local_initializer (LocalInitializer.Invoke how c) d more = flag false (excess_invoked how c d more)

-- local variables, each after a token
abbrev pub excess_locals : List Local → ℕ → Flags → Flags
excess_locals [] d more = more
excess_locals (l ∷ list) d more =
    flag false (flag false (excess_local_initializer l.initializer d (excess_locals list d more)))

-- a line of local variables after its `int`
abbrev pub excess_declaration : List Local → ℕ → Flags → Flags
excess_declaration [] d more = more
excess_declaration (l ∷ list) d more = flag false (excess_local_initializer l.initializer d (excess_locals list d more))

-- a reducer after its `int`
abbrev pub excess_reducer : Flags → Flags
excess_reducer more = flag false (flag false (flag false (flag false (flag false more))))

-- the first part of the head of a `for`
abbrev pub excess_beginning : Option Beginning → ℕ → Flags → Flags
excess_beginning None d more = flag false more
excess_beginning (Some (trees.Declares name e)) d more =
    flag false (flag false (flag false (excess e d 0 (flag false more))))
excess_beginning (Some (trees.Assigns a)) d more = excess_assignment a false d (flag false more)

-- the last part
abbrev pub excess_step : Option Assignment → ℕ → Flags → Flags
excess_step None d more = flag false more
excess_step (Some a) d more = excess_assignment a false d (flag false more)

abbrev pub is_sum : Kind → Bool
is_sum kinds.PlusAssign = true
is_sum _ = false

-- a name and `++`, or `++` and a name, or a name and `+= 1`
abbrev pub excess_unit_step : Flags → Flags
excess_unit_step more = flag false (where_next is_sum (flag false (flag false more)) (flag false more))

-- the head of a `cilk_for`
abbrev pub excess_bounds : trees.Bounds → ℕ → Flags → Flags
excess_bounds b d more =
    flag false (flag false (flag false (flag false (excess b.low d 0 (flag false (flag false (flag false
    (excess b.high d 0 (flag false (excess_unit_step (flag false more)))))))))))

-- a name and an expression in parentheses, and a semicolon
abbrev pub excess_update : Expression → ℕ → Flags → Flags
excess_update e d more = flag false (flag false (flag false (excess e d 0 (flag false (flag false more)))))

abbrev mutual
  pub excess_stmt : Statement → ℕ → Flags → Flags
  excess_stmt trees.Empty d more = flag (is_deep d) more
  excess_stmt (trees.Block row) d more = flag (is_deep d) (excess_all row (d + 1) (flag false more))
  excess_stmt (trees.Declare list) d more = flag (is_deep d) (excess_declaration list d (flag false more))
  excess_stmt (Statement.Reducer r) d more = flag (is_deep d) (excess_reducer (flag false more))
  excess_stmt (trees.Assign a) d more = excess_assignment a (is_deep d) d (flag false more)
  excess_stmt (Statement.Invoke how c) d more = excess_invoked how c d (flag false more)
  excess_stmt (trees.AssignCall name how c) d more = flag (is_deep d) (flag false (excess_invoked how c d (flag false more)))
  excess_stmt trees.Sync d more = flag (is_deep d) (flag false more)
  excess_stmt (trees.If e s) d more = flag (is_deep d) (excess_inside e d (excess_stmt s (d + 1) more))
  excess_stmt (trees.IfElse e s other) d more =
      flag (is_deep d) (excess_inside e d (excess_stmt s (d + 1) (flag false (excess_stmt other (d + 1) more))))
  excess_stmt (trees.While e s) d more = flag (is_deep d) (excess_inside e d (excess_stmt s (d + 1) more))
  excess_stmt (trees.For b e a s) d more =
      flag (is_deep d) (flag false (excess_beginning b d (excess_optional e d (excess_step a d (excess_stmt s (d + 1) more)))))
  excess_stmt (trees.ParallelFor b s) d more = flag (is_deep d) (excess_bounds b d (excess_stmt s (d + 1) more))
  excess_stmt (trees.Return at value) d more = flag (is_deep d) (excess_optional value d more)
  excess_stmt (trees.Print e) d more = flag (is_deep d) (excess_inside e d (flag false more))
  excess_stmt (trees.Update name e) d more = flag (is_deep d) (excess_update e d more)
  excess_stmt (Statement.Set name e) d more = flag (is_deep d) (excess_update e d more)

  pub excess_all : Statements → ℕ → Flags → Flags
  excess_all End d more = more
  excess_all (Then s row) d more = excess_stmt s d (excess_all row d more)

abbrev pub excess_initializer : Initializer → Flags → Flags
excess_initializer initializers.Absent more = more
excess_initializer (initializers.Number n) more = flag false (flag false more)
excess_initializer (initializers.Negative n) more = flag false (flag false (flag false more))

-- the rest of a global variable after its name
abbrev pub excess_global : GlobalVariable → Flags → Flags
excess_global (globals.Variable name i) more = excess_initializer i more
excess_global (globals.Array name n) more = flag false (flag false (flag false more))

abbrev pub excess_more : List GlobalVariable → Flags → Flags
excess_more [] more = more
excess_more (v ∷ list) more = flag false (flag false (excess_global v (excess_more list more)))

-- global variables after `int` and the name of the first
abbrev pub excess_variables : List GlobalVariable → Flags → Flags
excess_variables [] more = more
excess_variables (v ∷ list) more = excess_global v (excess_more list more)

-- a parameter after its `int`
abbrev pub excess_parameter : Parameter → Flags → Flags
excess_parameter (parameters.Variable name) more = flag false more
excess_parameter (parameters.Reducer r) more = excess_reducer more

abbrev pub excess_more_parameters : List Parameter → Flags → Flags
excess_more_parameters [] more = more
excess_more_parameters (p ∷ list) more = flag false (flag false (excess_parameter p (excess_more_parameters list more)))

abbrev pub is_void : Kind → Bool
is_void kinds.Void = true
is_void _ = false

-- the parameters of a function and the closing parenthesis
abbrev pub excess_parameters : List Parameter → Flags → Flags
excess_parameters [] more = where_next is_void (flag false (flag false more)) (flag false more)
excess_parameters (p ∷ list) more = flag false (excess_parameter p (excess_more_parameters list (flag false more)))

-- a function after its opening parenthesis
abbrev pub excess_function : List Parameter → Statements → Flags → Flags
excess_function list row more = excess_parameters list (flag false (excess_all row 0 (flag false more)))

abbrev pub excess_item : trees.Item → Flags → Flags
excess_item (trees.Globals list) more = flag false (flag false (excess_variables list (flag false more)))
excess_item (trees.Item.Reducer r) more = flag false (excess_reducer (flag false more))
excess_item (trees.Function returns name list row) more =
    flag false (flag false (flag false (excess_function list row more)))

-- for each token of a program, whether it is past a limit
abbrev pub excess_items : List trees.Item → Flags
excess_items [] = λ ts. []
excess_items (i ∷ list) = excess_item i (excess_items list)

-- none of the tokens of used, which the program begins with, is past a limit
abbrev pub Within : List Token → List Bool → Type 0
Within [] past = Unit {0}
Within (t ∷ used) [] = Unit {0}
Within (t ∷ used) (b ∷ past) = (b ≡ false) × Within used past

-- the token after those of used is the first that is past a limit
abbrev pub IsFirstPast : List Token → List Bool → Type 0
IsFirstPast used [] = ⊥
IsFirstPast [] (b ∷ past) = b ≡ true
IsFirstPast (t ∷ used) (b ∷ past) = (b ≡ false) × IsFirstPast used past
