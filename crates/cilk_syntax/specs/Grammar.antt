-- The grammar as a relation: which tokens spell which tree, and which tokens follow it.
use Rattle.std.specs.Prelude.{◌≡◌, ◌≢◌, ℕ, pos, ◌+◌, ◌≤◌, ◌⊎◌, List, [], ◌∷◌, Option, Some, None}
use Rattle.cilk_syntax.specs.declared.token.Kind.{Kind}
use Rattle.cilk_syntax.specs.declared.token.Kind.TheVariants as kinds
use Rattle.cilk_syntax.specs.declared.token.Token.{Token}
use Rattle.cilk_syntax.specs.declared.tree.Name.{Name}
use Rattle.cilk_syntax.specs.declared.tree.UnaryOperator.{UnaryOperator}
use Rattle.cilk_syntax.specs.declared.tree.UnaryOperator.TheVariants.{Negate, Not}
use Rattle.cilk_syntax.specs.declared.tree.BinaryOperator.{BinaryOperator}
use Rattle.cilk_syntax.specs.declared.tree.BinaryOperator.TheVariants.{Or, And, Equal, NotEqual, Less, LessEqual, Greater, GreaterEqual, Add, Subtract, Multiply, Divide, Remainder}
use Rattle.cilk_types.specs.declared.compound.Compound.{Compound}
use Rattle.cilk_types.specs.declared.compound.Compound.TheVariants as compounds
use Rattle.cilk_types.specs.declared.invocation.Invocation.{Invocation}
use Rattle.cilk_types.specs.declared.invocation.Invocation.TheVariants as invocations
use Rattle.cilk_syntax.specs.declared.tree.ReturnType.{ReturnType}
use Rattle.cilk_syntax.specs.declared.tree.ReturnType.TheVariants as types
use Rattle.cilk_syntax.specs.declared.tree.Reducer.{Reducer}
use Rattle.cilk_syntax.specs.declared.tree.Initializer.{Initializer}
use Rattle.cilk_syntax.specs.declared.tree.Initializer.TheVariants as initializers
use Rattle.cilk_syntax.specs.declared.tree.GlobalVariable.{GlobalVariable}
use Rattle.cilk_syntax.specs.declared.tree.GlobalVariable.TheVariants as globals
use Rattle.cilk_syntax.specs.declared.tree.Parameter.{Parameter}
use Rattle.cilk_syntax.specs.declared.tree.Parameter.TheVariants as parameters
use Rattle.cilk_syntax.specs.Trees as trees
use Rattle.cilk_syntax.specs.Trees.{Expression, Number, Group, Unary, Binary, Input, InputCount, Argument, Call, Assignment, Local, LocalInitializer, Beginning, Bounds, Statement, Statements, End, Then}

-- the first of the tokens is of this kind
abbrev pub Is : Kind → List Token → List Token → Type 0
Is kind ts rest = (t : Token) × (ts ≡ t ∷ rest) × (t.kind ≡ kind)

-- the first of the tokens is this name
abbrev pub IsName : Name → List Token → List Token → Type 0
IsName name ts rest = (t : Token) × (ts ≡ t ∷ rest) × (t.kind ≡ kinds.Name) × (name.at ≡ t.at) × (name.end ≡ t.end)

-- the first of the tokens is of this kind and at this place
abbrev pub IsAt : Kind → ℕ → List Token → List Token → Type 0
IsAt kind at ts rest = (t : Token) × (ts ≡ t ∷ rest) × (t.kind ≡ kind) × (at ≡ t.at)

abbrev pub sign_of : UnaryOperator → Kind
sign_of Negate = kinds.Minus
sign_of Not = kinds.Not

abbrev pub mark_of : BinaryOperator → Kind
mark_of Or = kinds.Or
mark_of And = kinds.And
mark_of Equal = kinds.Equal
mark_of NotEqual = kinds.NotEqual
mark_of Less = kinds.Less
mark_of LessEqual = kinds.LessEqual
mark_of Greater = kinds.Greater
mark_of GreaterEqual = kinds.GreaterEqual
mark_of Add = kinds.Plus
mark_of Subtract = kinds.Minus
mark_of Multiply = kinds.Star
mark_of Divide = kinds.Slash
mark_of Remainder = kinds.Percent

-- the levels of the operators, from 0 for the weakest
abbrev pub level : BinaryOperator → ℕ
level Or = 0
level And = 1
level Equal = 2
level NotEqual = 2
level Less = 3
level LessEqual = 3
level Greater = 3
level GreaterEqual = 3
level Add = 4
level Subtract = 4
level Multiply = 5
level Divide = 5
level Remainder = 5

-- the mark of a compound assignment
abbrev pub compound_mark : Compound → Kind
compound_mark compounds.Add = kinds.PlusAssign
compound_mark compounds.Subtract = kinds.MinusAssign
compound_mark compounds.Multiply = kinds.StarAssign

abbrev pub type_of : ReturnType → Kind
type_of types.Int = kinds.Int
type_of types.Void = kinds.Void

-- how tightly an expression binds: the level of its operator, or 6 if it has none between operands
abbrev pub level_in : Expression → ℕ
level_in (Binary op a b) = level op
level_in _ = 6

abbrev pub SpellsExpr : Expression → List Token → List Token → Type 0
SpellsExpr (Number n) ts rest = Is (kinds.Number n) ts rest
SpellsExpr (Expression.Variable name) ts rest = IsName name ts rest
SpellsExpr (Expression.Element name e) ts rest =
    (ts1 ts2 ts3 : List Token) × IsName name ts ts1 × Is kinds.OpenBracket ts1 ts2 × SpellsExpr e ts2 ts3 × Is kinds.CloseBracket ts3 rest
SpellsExpr (Group e) ts rest = (ts1 ts2 : List Token) × Is kinds.Open ts ts1 × SpellsExpr e ts1 ts2 × Is kinds.Close ts2 rest
SpellsExpr (Unary op e) ts rest = (ts1 : List Token) × Is (sign_of op) ts ts1 × SpellsExpr e ts1 rest × (6 ≤ level_in e)
-- left-associative
SpellsExpr (Binary op a b) ts rest =
    (ts1 ts2 : List Token) × SpellsExpr a ts ts1 × (level op ≤ level_in a) × Is (mark_of op) ts1 ts2 × SpellsExpr b ts2 rest × (level op + 1 ≤ level_in b)
SpellsExpr (Expression.Value name) ts rest =
    (ts1 ts2 ts3 : List Token) × Is kinds.Value ts ts1 × Is kinds.Open ts1 ts2 × IsName name ts2 ts3 × Is kinds.Close ts3 rest
SpellsExpr (Input e) ts rest =
    (ts1 ts2 ts3 : List Token) × Is kinds.Input ts ts1 × Is kinds.Open ts1 ts2 × SpellsExpr e ts2 ts3 × Is kinds.Close ts3 rest
SpellsExpr InputCount ts rest =
    (ts1 ts2 : List Token) × Is kinds.InputCount ts ts1 × Is kinds.Open ts1 ts2 × Is kinds.Close ts2 rest

-- an expression and the mark that closes it
abbrev pub SpellsClosed : Kind → Expression → List Token → List Token → Type 0
SpellsClosed close e ts rest = (ts1 : List Token) × SpellsExpr e ts ts1 × Is close ts1 rest

-- the rest of an expression that begins with a name, after that name
abbrev pub SpellsBehindName : Expression → Name → List Token → List Token → Type 0
SpellsBehindName e name ts rest = (ts0 : List Token) → IsName name ts0 ts → SpellsExpr e ts0 rest

-- the rest of an expression that begins with a token of this kind, after that token
abbrev pub SpellsPart : Kind → Expression → List Token → List Token → Type 0
SpellsPart kind e ts rest = (t : Token) → t.kind ≡ kind → SpellsExpr e (t ∷ ts) rest

-- an `else` belongs to the nearest `if`
abbrev pub NoElse : List Token → Type 0
NoElse [] = Unit {0}
NoElse (t ∷ ts) = t.kind ≢ kinds.Else

-- an expression in parentheses
unfoldable pub SpellsInside : Expression → List Token → List Token → Type 0
SpellsInside e ts rest =
    (ts1 ts2 : List Token) × Is kinds.Open ts ts1 × SpellsExpr e ts1 ts2 × Is kinds.Close ts2 rest

-- an expression and a semicolon
abbrev pub SpellsEnded : Expression → List Token → List Token → Type 0
SpellsEnded e ts rest = (ts1 : List Token) × SpellsExpr e ts ts1 × Is kinds.Semicolon ts1 rest

-- an expression or none, and a semicolon
unfoldable pub SpellsOptional : Option Expression → List Token → List Token → Type 0
SpellsOptional None ts rest = Is kinds.Semicolon ts rest
SpellsOptional (Some e) ts rest = SpellsEnded e ts rest

-- an argument, with the place of its first token
abbrev pub SpellsArgument : Argument → List Token → List Token → Type 0
SpellsArgument a ts rest = (t : Token) × (ts1 : List Token) × (ts ≡ t ∷ ts1) × (a.at ≡ t.at) × SpellsExpr a.value ts rest

-- further arguments, each after a comma
abbrev pub SpellsMoreArguments : List Argument → List Token → List Token → Type 0
SpellsMoreArguments [] ts rest = ts ≡ rest
SpellsMoreArguments (a ∷ list) ts rest =
    (ts1 ts2 : List Token) × Is kinds.Comma ts ts1 × SpellsArgument a ts1 ts2 × SpellsMoreArguments list ts2 rest

-- one argument or more
abbrev pub SpellsSome : List Argument → List Token → List Token → Type 0
SpellsSome [] ts rest = ⊥
SpellsSome (a ∷ list) ts rest = (ts1 : List Token) × SpellsArgument a ts ts1 × SpellsMoreArguments list ts1 rest

-- the arguments of a call, and the closing parenthesis
abbrev pub SpellsArguments : List Argument → List Token → List Token → Type 0
SpellsArguments [] ts rest = Is kinds.Close ts rest
SpellsArguments (a ∷ list) ts rest = (ts1 : List Token) × SpellsSome (a ∷ list) ts ts1 × Is kinds.Close ts1 rest

unfoldable pub SpellsCall : Call → List Token → List Token → Type 0
SpellsCall c ts rest =
    (ts1 ts2 : List Token) × IsName c.name ts ts1 × Is kinds.Open ts1 ts2 × SpellsArguments c.arguments ts2 rest

-- a call, or a spawn
abbrev pub SpellsInvoked : Invocation → Call → List Token → List Token → Type 0
SpellsInvoked invocations.Call c ts rest = SpellsCall c ts rest
SpellsInvoked invocations.Spawn c ts rest = (ts1 : List Token) × Is kinds.CilkSpawn ts ts1 × SpellsCall c ts1 rest

-- a right side: an expression, or a call
abbrev pub SpellsSource : LocalInitializer → List Token → List Token → Type 0
SpellsSource trees.Absent ts rest = ⊥
SpellsSource (LocalInitializer.Value e) ts rest = SpellsExpr e ts rest
SpellsSource (LocalInitializer.Invoke how c) ts rest = SpellsInvoked how c ts rest

abbrev pub SpellsLvalue : trees.Lvalue → List Token → List Token → Type 0
SpellsLvalue (trees.Lvalue.Variable name) ts rest = IsName name ts rest
SpellsLvalue (trees.Lvalue.Element name e) ts rest =
    (ts1 ts2 ts3 : List Token) × IsName name ts ts1 × Is kinds.OpenBracket ts1 ts2 × SpellsExpr e ts2 ts3 × Is kinds.CloseBracket ts3 rest

-- a place with this mark before or after it
abbrev pub SpellsStepped : Kind → trees.Lvalue → List Token → List Token → Type 0
SpellsStepped kind p ts rest =
    ((ts1 : List Token) × Is kind ts ts1 × SpellsLvalue p ts1 rest) ⊎ ((ts1 : List Token) × SpellsLvalue p ts ts1 × Is kind ts1 rest)

-- a place, this mark, and an expression
abbrev pub SpellsTaken : Kind → trees.Lvalue → Expression → List Token → List Token → Type 0
SpellsTaken kind p e ts rest = (ts1 ts2 : List Token) × SpellsLvalue p ts ts1 × Is kind ts1 ts2 × SpellsExpr e ts2 rest

abbrev pub SpellsAssignment : Assignment → List Token → List Token → Type 0
SpellsAssignment (Assignment.Set p e) ts rest = SpellsTaken kinds.Assign p e ts rest
SpellsAssignment (trees.Compound op p e) ts rest = SpellsTaken (compound_mark op) p e ts rest
SpellsAssignment (trees.Increment p) ts rest = SpellsStepped kinds.Increment p ts rest
SpellsAssignment (trees.Decrement p) ts rest = SpellsStepped kinds.Decrement p ts rest

-- the rest of a place, after its name
abbrev pub SpellsLvalueRest : trees.Lvalue → Name → List Token → List Token → Type 0
SpellsLvalueRest p name ts rest = (ts0 : List Token) → IsName name ts0 ts → SpellsLvalue p ts0 rest

-- the rest of an assignment that begins with a name, after that name
abbrev pub SpellsAssignmentRest : Assignment → Name → List Token → List Token → Type 0
SpellsAssignmentRest a name ts rest = (ts0 : List Token) → IsName name ts0 ts → SpellsAssignment a ts0 rest

-- the rest of an assignment, after its place
abbrev pub SpellsOperation : Assignment → trees.Lvalue → List Token → List Token → Type 0
SpellsOperation a p ts rest = (ts0 : List Token) → SpellsLvalue p ts0 ts → SpellsAssignment a ts0 rest

-- the initializer of a local variable, after its name
abbrev pub SpellsLocalInitializer : LocalInitializer → List Token → List Token → Type 0
SpellsLocalInitializer trees.Absent ts rest = ts ≡ rest
SpellsLocalInitializer (LocalInitializer.Value e) ts rest = (ts1 : List Token) × Is kinds.Assign ts ts1 × SpellsExpr e ts1 rest
SpellsLocalInitializer (LocalInitializer.Invoke how c) ts rest = (ts1 : List Token) × Is kinds.Assign ts ts1 × SpellsInvoked how c ts1 rest

unfoldable pub SpellsLocal : Local → List Token → List Token → Type 0
SpellsLocal l ts rest = (ts1 : List Token) × IsName l.name ts ts1 × SpellsLocalInitializer l.initializer ts1 rest

-- further local variables, each after a comma
abbrev pub SpellsMoreLocals : List Local → List Token → List Token → Type 0
SpellsMoreLocals [] ts rest = ts ≡ rest
SpellsMoreLocals (l ∷ list) ts rest =
    (ts1 ts2 : List Token) × Is kinds.Comma ts ts1 × SpellsLocal l ts1 ts2 × SpellsMoreLocals list ts2 rest

abbrev pub SpellsLocals : List Local → List Token → List Token → Type 0
SpellsLocals [] ts rest = ⊥
SpellsLocals (l ∷ list) ts rest = (ts1 : List Token) × SpellsLocal l ts ts1 × SpellsMoreLocals list ts1 rest

-- a line of local variables, with the semicolon
unfoldable pub SpellsLocalLine : List Local → List Token → List Token → Type 0
SpellsLocalLine list ts rest = (ts1 : List Token) × SpellsLocals list ts ts1 × Is kinds.Semicolon ts1 rest

-- a reducer, after its `int`
unfoldable pub SpellsReducer : Reducer → List Token → List Token → Type 0
SpellsReducer r ts rest =
    (ts1 ts2 ts3 ts4 : List Token) × Is kinds.CilkReducer ts ts1 × Is kinds.Open ts1 ts2 × IsName r.monoid ts2 ts3 × Is kinds.Close ts3 ts4 × IsName r.name ts4 rest

-- the rest of a reducer, after `cilk_reducer`
abbrev pub SpellsReducerRest : Reducer → List Token → List Token → Type 0
SpellsReducerRest r ts rest = (t : Token) → t.kind ≡ kinds.CilkReducer → SpellsReducer r (t ∷ ts) rest

-- a variable with its value, and a semicolon
unfoldable pub SpellsDefined : Name → Expression → List Token → List Token → Type 0
SpellsDefined name e ts rest = (ts1 ts2 : List Token) × IsName name ts ts1 × Is kinds.Assign ts1 ts2 × SpellsEnded e ts2 rest

-- a variable with its bound, and a semicolon
unfoldable pub SpellsTested : Name → Expression → List Token → List Token → Type 0
SpellsTested name e ts rest = (ts1 ts2 : List Token) × IsName name ts ts1 × Is kinds.Less ts1 ts2 × SpellsEnded e ts2 rest

-- `++` or `+= 1`, after a name
abbrev pub SpellsUnit : List Token → List Token → Type 0
SpellsUnit ts rest =
    Is kinds.Increment ts rest ⊎ ((ts1 : List Token) × Is kinds.PlusAssign ts ts1 × Is (kinds.Number (pos 1)) ts1 rest)

-- a name that is incremented by 1
unfoldable pub SpellsUnitStep : Name → List Token → List Token → Type 0
SpellsUnitStep name ts rest =
    ((ts1 : List Token) × Is kinds.Increment ts ts1 × IsName name ts1 rest) ⊎ ((ts1 : List Token) × IsName name ts ts1 × SpellsUnit ts1 rest)

-- the first part of the head of a `for`
unfoldable pub SpellsBeginning : Option Beginning → List Token → List Token → Type 0
SpellsBeginning None ts rest = Is kinds.Semicolon ts rest
SpellsBeginning (Some (trees.Declares name e)) ts rest = (ts1 : List Token) × Is kinds.Int ts ts1 × SpellsDefined name e ts1 rest
SpellsBeginning (Some (trees.Assigns a)) ts rest = (ts1 : List Token) × SpellsAssignment a ts ts1 × Is kinds.Semicolon ts1 rest

-- the last part
unfoldable pub SpellsStep : Option Assignment → List Token → List Token → Type 0
SpellsStep None ts rest = Is kinds.Close ts rest
SpellsStep (Some a) ts rest = (ts1 : List Token) × SpellsAssignment a ts ts1 × Is kinds.Close ts1 rest

-- the head of a `for`
unfoldable pub SpellsHead : Option Beginning → Option Expression → Option Assignment → List Token → List Token → Type 0
SpellsHead b e a ts rest =
    (ts1 ts2 ts3 : List Token) × Is kinds.Open ts ts1 × SpellsBeginning b ts1 ts2 × SpellsOptional e ts2 ts3 × SpellsStep a ts3 rest

-- the head of a `cilk_for`
unfoldable pub SpellsBounds : Bounds → List Token → List Token → Type 0
SpellsBounds b ts rest =
    (ts1 ts2 ts3 ts4 ts5 : List Token) × Is kinds.Open ts ts1 × Is kinds.Int ts1 ts2 × SpellsDefined b.variable b.low ts2 ts3 × SpellsTested b.tested b.high ts3 ts4 × SpellsUnitStep b.stepped ts4 ts5 × Is kinds.Close ts5 rest

-- a reducer's name and an expression in parentheses, and a semicolon
unfoldable pub SpellsUpdate : Name → Expression → List Token → List Token → Type 0
SpellsUpdate name e ts rest =
    (ts1 ts2 ts3 ts4 ts5 : List Token) × Is kinds.Open ts ts1 × IsName name ts1 ts2 × Is kinds.Comma ts2 ts3 × SpellsExpr e ts3 ts4 × Is kinds.Close ts4 ts5 × Is kinds.Semicolon ts5 rest

abbrev mutual
  pub SpellsStmt : Statement → List Token → List Token → Type 0
  SpellsStmt trees.Empty ts rest = Is kinds.Semicolon ts rest
  SpellsStmt (trees.Block row) ts rest =
      (ts1 ts2 : List Token) × Is kinds.OpenBrace ts ts1 × SpellsAll row ts1 ts2 × Is kinds.CloseBrace ts2 rest
  SpellsStmt (trees.Declare list) ts rest =
      (ts1 : List Token) × Is kinds.Int ts ts1 × SpellsLocalLine list ts1 rest
  SpellsStmt (Statement.Reducer r) ts rest =
      (ts1 ts2 : List Token) × Is kinds.Int ts ts1 × SpellsReducer r ts1 ts2 × Is kinds.Semicolon ts2 rest
  SpellsStmt (trees.Assign a) ts rest = (ts1 : List Token) × SpellsAssignment a ts ts1 × Is kinds.Semicolon ts1 rest
  SpellsStmt (Statement.Invoke how c) ts rest = (ts1 : List Token) × SpellsInvoked how c ts ts1 × Is kinds.Semicolon ts1 rest
  SpellsStmt (trees.AssignCall name how c) ts rest =
      (ts1 ts2 ts3 : List Token) × IsName name ts ts1 × Is kinds.Assign ts1 ts2 × SpellsInvoked how c ts2 ts3 × Is kinds.Semicolon ts3 rest
  SpellsStmt trees.Sync ts rest = (ts1 : List Token) × Is kinds.CilkSync ts ts1 × Is kinds.Semicolon ts1 rest
  SpellsStmt (trees.If e s) ts rest =
      (ts1 ts2 : List Token) × Is kinds.If ts ts1 × SpellsInside e ts1 ts2 × SpellsStmt s ts2 rest × NoElse rest
  SpellsStmt (trees.IfElse e s other) ts rest =
      (ts1 ts2 ts3 ts4 : List Token) × Is kinds.If ts ts1 × SpellsInside e ts1 ts2 × SpellsStmt s ts2 ts3 × Is kinds.Else ts3 ts4 × SpellsStmt other ts4 rest
  SpellsStmt (trees.While e s) ts rest =
      (ts1 ts2 : List Token) × Is kinds.While ts ts1 × SpellsInside e ts1 ts2 × SpellsStmt s ts2 rest
  SpellsStmt (trees.For b e a s) ts rest =
      (ts1 ts2 : List Token) × Is kinds.For ts ts1 × SpellsHead b e a ts1 ts2 × SpellsStmt s ts2 rest
  SpellsStmt (trees.ParallelFor b s) ts rest =
      (ts1 ts2 : List Token) × Is kinds.CilkFor ts ts1 × SpellsBounds b ts1 ts2 × SpellsStmt s ts2 rest
  SpellsStmt (trees.Return at value) ts rest = (ts1 : List Token) × IsAt kinds.Return at ts ts1 × SpellsOptional value ts1 rest
  SpellsStmt (trees.Print e) ts rest =
      (ts1 ts2 : List Token) × Is kinds.Print ts ts1 × SpellsInside e ts1 ts2 × Is kinds.Semicolon ts2 rest
  SpellsStmt (trees.Update name e) ts rest = (ts1 : List Token) × Is kinds.Update ts ts1 × SpellsUpdate name e ts1 rest
  SpellsStmt (Statement.Set name e) ts rest = (ts1 : List Token) × Is kinds.Set ts ts1 × SpellsUpdate name e ts1 rest

  -- one statement after the other
  pub SpellsAll : Statements → List Token → List Token → Type 0
  SpellsAll End ts rest = ts ≡ rest
  SpellsAll (Then s row) ts rest = (ts1 : List Token) × SpellsStmt s ts ts1 × SpellsAll row ts1 rest

-- the rest of a statement that begins with a token of this kind, after that token
abbrev pub SpellsRest : Kind → Statement → List Token → List Token → Type 0
SpellsRest kind s ts rest = (t : Token) → t.kind ≡ kind → SpellsStmt s (t ∷ ts) rest

-- the rest of a statement that begins with a name, after that name
abbrev pub SpellsNamed : Statement → Name → List Token → List Token → Type 0
SpellsNamed s name ts rest = (ts0 : List Token) → IsName name ts0 ts → SpellsStmt s ts0 rest

-- the rest of a statement that begins with a name and a token of this kind, after both
abbrev pub SpellsNamedRest : Kind → Statement → Name → List Token → List Token → Type 0
SpellsNamedRest kind s name ts rest = (ts0 ts1 : List Token) → IsName name ts0 ts1 → Is kind ts1 ts → SpellsStmt s ts0 rest

-- a number, or a minus and a number
abbrev pub SpellsLiteral : Initializer → List Token → List Token → Type 0
SpellsLiteral initializers.Absent ts rest = ⊥
SpellsLiteral (initializers.Number n) ts rest = Is (kinds.Number n) ts rest
SpellsLiteral (initializers.Negative n) ts rest = (ts1 : List Token) × Is kinds.Minus ts ts1 × Is (kinds.Number n) ts1 rest

-- the initializer of a global variable, or none
abbrev pub SpellsInitializer : Initializer → List Token → List Token → Type 0
SpellsInitializer initializers.Absent ts rest = ts ≡ rest
SpellsInitializer i ts rest = (ts1 : List Token) × Is kinds.Assign ts ts1 × SpellsLiteral i ts1 rest

-- the rest of a global variable, after its name
abbrev pub SpellsGlobal : GlobalVariable → Name → List Token → List Token → Type 0
SpellsGlobal (globals.Variable own i) name ts rest = (own ≡ name) × SpellsInitializer i ts rest
SpellsGlobal (globals.Array own n) name ts rest =
    (ts1 ts2 : List Token) × (own ≡ name) × Is kinds.OpenBracket ts ts1 × Is (kinds.Number n) ts1 ts2 × Is kinds.CloseBracket ts2 rest

-- further variables, each after a comma
abbrev pub SpellsMore : List GlobalVariable → List Token → List Token → Type 0
SpellsMore [] ts rest = ts ≡ rest
SpellsMore (v ∷ list) ts rest =
    (name : Name) × (ts1 ts2 ts3 : List Token) × Is kinds.Comma ts ts1 × IsName name ts1 ts2 × SpellsGlobal v name ts2 ts3 × SpellsMore list ts3 rest

-- global variables, after the name of the first
abbrev pub SpellsVariables : Name → List GlobalVariable → List Token → List Token → Type 0
SpellsVariables name [] ts rest = ⊥
SpellsVariables name (v ∷ list) ts rest = (ts1 : List Token) × SpellsGlobal v name ts ts1 × SpellsMore list ts1 rest

-- a line of global variables, with the semicolon
unfoldable pub SpellsLine : Name → List GlobalVariable → List Token → List Token → Type 0
SpellsLine name list ts rest = (ts1 : List Token) × SpellsVariables name list ts ts1 × Is kinds.Semicolon ts1 rest

-- a parameter, after its `int`
abbrev pub SpellsParameter : Parameter → List Token → List Token → Type 0
SpellsParameter (parameters.Variable name) ts rest = IsName name ts rest
SpellsParameter (parameters.Reducer r) ts rest = SpellsReducer r ts rest

-- further parameters, each after a comma
abbrev pub SpellsMoreParameters : List Parameter → List Token → List Token → Type 0
SpellsMoreParameters [] ts rest = ts ≡ rest
SpellsMoreParameters (p ∷ list) ts rest =
    (ts1 ts2 ts3 : List Token) × Is kinds.Comma ts ts1 × Is kinds.Int ts1 ts2 × SpellsParameter p ts2 ts3 × SpellsMoreParameters list ts3 rest

-- one parameter or more, after the first `int`
abbrev pub SpellsListed : List Parameter → List Token → List Token → Type 0
SpellsListed [] ts rest = ⊥
SpellsListed (p ∷ list) ts rest = (ts1 : List Token) × SpellsParameter p ts ts1 × SpellsMoreParameters list ts1 rest

-- the parameters of a function, and the closing parenthesis
abbrev pub SpellsParameters : List Parameter → List Token → List Token → Type 0
SpellsParameters [] ts rest = Is kinds.Close ts rest ⊎ ((ts1 : List Token) × Is kinds.Void ts ts1 × Is kinds.Close ts1 rest)
SpellsParameters (p ∷ list) ts rest =
    (ts1 ts2 : List Token) × Is kinds.Int ts ts1 × SpellsListed (p ∷ list) ts1 ts2 × Is kinds.Close ts2 rest

-- a function's body
unfoldable pub SpellsBody : Statements → List Token → List Token → Type 0
SpellsBody row ts rest =
    (ts1 ts2 : List Token) × Is kinds.OpenBrace ts ts1 × SpellsAll row ts1 ts2 × Is kinds.CloseBrace ts2 rest

-- a function, after its opening parenthesis
unfoldable pub SpellsFunction : List Parameter → Statements → List Token → List Token → Type 0
SpellsFunction list row ts rest = (ts1 : List Token) × SpellsParameters list ts ts1 × SpellsBody row ts1 rest

abbrev pub SpellsItem : trees.Item → List Token → List Token → Type 0
SpellsItem (trees.Globals list) ts rest =
    (name : Name) × (ts1 ts2 : List Token) × Is kinds.Int ts ts1 × IsName name ts1 ts2 × SpellsLine name list ts2 rest
SpellsItem (trees.Item.Reducer r) ts rest =
    (ts1 ts2 : List Token) × Is kinds.Int ts ts1 × SpellsReducer r ts1 ts2 × Is kinds.Semicolon ts2 rest
SpellsItem (trees.Function type name list row) ts rest =
    (ts1 ts2 ts3 : List Token) × Is (type_of type) ts ts1 × IsName name ts1 ts2 × Is kinds.Open ts2 ts3 × SpellsFunction list row ts3 rest

-- the rest of an item that begins with this type, after the type
abbrev pub SpellsTyped : ReturnType → trees.Item → List Token → List Token → Type 0
SpellsTyped type i ts rest = (ts0 : List Token) → Is (type_of type) ts0 ts → SpellsItem i ts0 rest

-- the rest of an item that begins with this type and name, after both
abbrev pub SpellsItemRest : ReturnType → Name → trees.Item → List Token → List Token → Type 0
SpellsItemRest type name i ts rest = (ts0 ts1 : List Token) → Is (type_of type) ts0 ts1 → IsName name ts1 ts → SpellsItem i ts0 rest

-- one item after the other
abbrev pub SpellsItems : List trees.Item → List Token → List Token → Type 0
SpellsItems [] ts rest = ts ≡ rest
SpellsItems (i ∷ list) ts rest = (ts1 : List Token) × SpellsItem i ts ts1 × SpellsItems list ts1 rest

-- the tokens are exactly these items
abbrev pub SpellsProgram : List trees.Item → List Token → Type 0
SpellsProgram list ts = SpellsItems list ts []
