-- Syntax trees as plain data, without their layout in memory. The grammar and the scope rules are
-- defined on them.
use Rattle.std.specs.Prelude.{ℕ, List, [], ◌∷◌, ◌-◌, ℤ, pos, neg_ℤ, Option, Some, None, Box, take, drop}
use Rattle.std.specs.declared.alloc.Global.{Global}
use Rattle.cilk_types.specs.Word.{word_of}
use Rattle.cilk_syntax.specs.declared.tree.Name.{Name}
use Rattle.cilk_syntax.specs.declared.tree.UnaryOperator.{UnaryOperator}
use Rattle.cilk_syntax.specs.declared.tree.BinaryOperator.{BinaryOperator}
use Rattle.cilk_types.specs.declared.compound.Compound as compounds
use Rattle.cilk_types.specs.declared.invocation.Invocation.{Invocation}
use Rattle.cilk_syntax.specs.declared.tree.ReturnType.{ReturnType}
use Rattle.cilk_syntax.specs.declared.tree.Reducer as reducers
use Rattle.cilk_syntax.specs.declared.tree.Initializer.{Initializer}
use Rattle.cilk_syntax.specs.declared.tree.Initializer.TheVariants as initializers
use Rattle.cilk_syntax.specs.declared.tree.GlobalVariable.{GlobalVariable}
use Rattle.cilk_syntax.specs.declared.tree.Parameter.{Parameter}
use Rattle.cilk_syntax.specs.declared.tree.Expr as exprs
use Rattle.cilk_syntax.specs.declared.tree.Argument as declared_arguments
use Rattle.cilk_syntax.specs.declared.tree.Call as declared_calls
use Rattle.cilk_syntax.specs.declared.tree.Lvalue as declared_places
use Rattle.cilk_syntax.specs.declared.tree.Lvalue.TheVariants as places
use Rattle.cilk_syntax.specs.declared.tree.Assignment as declared_assignments
use Rattle.cilk_syntax.specs.declared.tree.Assignment.TheVariants as assignments
use Rattle.cilk_syntax.specs.declared.tree.LocalInitializer as declared_initializers
use Rattle.cilk_syntax.specs.declared.tree.LocalInitializer.TheVariants as local_initializers
use Rattle.cilk_syntax.specs.declared.tree.Local as declared_locals
use Rattle.cilk_syntax.specs.declared.tree.Beginning as declared_beginnings
use Rattle.cilk_syntax.specs.declared.tree.Beginning.TheVariants as beginnings
use Rattle.cilk_syntax.specs.declared.tree.Head as declared_heads
use Rattle.cilk_syntax.specs.declared.tree.Bounds as declared_bounds
use Rattle.cilk_syntax.specs.declared.tree.Stmt as stmts
use Rattle.cilk_syntax.specs.declared.tree.Item as declared
use Rattle.cilk_syntax.specs.declared.tree.Item.TheVariants as items
use Rattle.cilk_syntax.specs.declared.tree.Tree.{Tree}

pub data Expression : Type 0 where
  Number : (value : ℤ) → Expression
  Variable : (name : Name) → Expression
  Element : (name : Name) (index : Expression) → Expression
  Group : (inner : Expression) → Expression
  Unary : (operator : UnaryOperator) (operand : Expression) → Expression
  Binary : (operator : BinaryOperator) (left : Expression) (right : Expression) → Expression
  Value : (name : Name) → Expression
  Input : (place : Expression) → Expression
  InputCount : Expression

-- an argument of a call, with the place of its first byte
pub record Argument : Type 0 where
  pub at : ℕ
  pub value : Expression

pub record Call : Type 0 where
  pub name : Name
  pub arguments : List Argument

-- the target of an assignment
pub data Lvalue : Type 0 where
  Variable : (name : Name) → Lvalue
  Element : (name : Name) (index : Expression) → Lvalue

pub data Assignment : Type 0 where
  Set : (place : Lvalue) (value : Expression) → Assignment
  Compound : (operator : compounds.Compound) (place : Lvalue) (value : Expression) → Assignment
  Increment : (place : Lvalue) → Assignment
  Decrement : (place : Lvalue) → Assignment

-- the initializer of a local variable
pub data LocalInitializer : Type 0 where
  Absent : LocalInitializer
  Value : (value : Expression) → LocalInitializer
  Invoke : (how : Invocation) (call : Call) → LocalInitializer

pub record Local : Type 0 where
  pub name : Name
  pub initializer : LocalInitializer

-- the first part of the head of a `for`
pub data Beginning : Type 0 where
  Declares : (name : Name) (value : Expression) → Beginning
  Assigns : (assignment : Assignment) → Beginning

-- the head of a `cilk_for`, with three names that must be equal
pub record Bounds : Type 0 where
  pub variable : Name
  pub low : Expression
  pub tested : Name
  pub high : Expression
  pub stepped : Name

mutual
  pub data Statement : Type 0 where
    Empty : Statement
    Block : (row : Statements) → Statement
    Declare : (locals : List Local) → Statement
    Reducer : (reducer : reducers.Reducer) → Statement
    Assign : (assignment : Assignment) → Statement
    Invoke : (how : Invocation) (call : Call) → Statement
    AssignCall : (name : Name) (how : Invocation) (call : Call) → Statement
    Sync : Statement
    If : (test : Expression) (first : Statement) → Statement
    IfElse : (test : Expression) (first : Statement) (second : Statement) → Statement
    While : (test : Expression) (body : Statement) → Statement
    For : (beginning : Option Beginning) (test : Option Expression) (step : Option Assignment) (body : Statement) → Statement
    ParallelFor : (bounds : Bounds) (body : Statement) → Statement
    Return : (at : ℕ) (value : Option Expression) → Statement
    Print : (value : Expression) → Statement
    Update : (name : Name) (value : Expression) → Statement
    Set : (name : Name) (value : Expression) → Statement

  pub data Statements : Type 0 where
    End : Statements
    Then : (first : Statement) (row : Statements) → Statements

-- a program is a list of items
pub data Item : Type 0 where
  Globals : (variables : List GlobalVariable) → Item
  Reducer : (reducer : reducers.Reducer) → Item
  Function : (returns : ReturnType) (name : Name) (parameters : List Parameter) (body : Statements) → Item

-- the expression in memory, as plain data
abbrev pub expression : exprs.Expr → Expression
expression (exprs.Number at n) = Number n
expression (exprs.Variable name) = Expression.Variable name
expression (exprs.Element' name p e) = Expression.Element name (expression e)
expression (exprs.Group' p e) = Group (expression e)
expression (exprs.Unary' at op p e) = Unary op (expression e)
expression (exprs.Binary' at op p a q b) = Binary op (expression a) (expression b)
expression (exprs.Value name) = Expression.Value name
expression (exprs.Input' at p e) = Input (expression e)
expression (exprs.InputCount at) = InputCount

abbrev pub optional : Option (Box exprs.Expr Global) → Option Expression
optional None = None
optional (Some e) = Some (expression e.value)

abbrev pub argument : declared_arguments.Argument → Argument
argument a = record { at = a.at; value = expression a.value.value }

abbrev pub arguments_of : List declared_arguments.Argument → List Argument
arguments_of [] = []
arguments_of (a ∷ list) = argument a ∷ arguments_of list

abbrev pub call : declared_calls.Call → Call
call c = record { name = c.name; arguments = arguments_of c.arguments.items }

abbrev pub place : declared_places.Lvalue → Lvalue
place (places.Variable name) = Lvalue.Variable name
place (places.Element name e) = Lvalue.Element name (expression e.value)

abbrev pub assignment : declared_assignments.Assignment → Assignment
assignment (assignments.Set p e) = Assignment.Set (place p) (expression e.value)
assignment (assignments.Compound at op p e) = Compound op (place p) (expression e.value)
assignment (assignments.Increment p) = Increment (place p)
assignment (assignments.Decrement p) = Decrement (place p)

abbrev pub optional_assignment : Option declared_assignments.Assignment → Option Assignment
optional_assignment None = None
optional_assignment (Some a) = Some (assignment a)

abbrev pub local_initializer : declared_initializers.LocalInitializer → LocalInitializer
local_initializer local_initializers.Absent = Absent
local_initializer (local_initializers.Value e) = LocalInitializer.Value (expression e.value)
local_initializer (local_initializers.Invoke how c) = LocalInitializer.Invoke how (call c.value)

abbrev pub local : declared_locals.Local → Local
local l = record { name = l.name; initializer = local_initializer l.initializer }

abbrev pub locals_of : List declared_locals.Local → List Local
locals_of [] = []
locals_of (l ∷ list) = local l ∷ locals_of list

abbrev pub beginning : declared_beginnings.Beginning → Beginning
beginning (beginnings.Declares name e) = Declares name (expression e.value)
beginning (beginnings.Assigns a) = Assigns (assignment a)

abbrev pub optional_beginning : Option declared_beginnings.Beginning → Option Beginning
optional_beginning None = None
optional_beginning (Some b) = Some (beginning b)

-- a `for` of a head and a body
abbrev pub repetition : declared_heads.Head → Statement → Statement
repetition h body = For (optional_beginning h.beginning) (optional h.test) (optional_assignment h.step) body

abbrev pub bounds : declared_bounds.Bounds → Bounds
bounds b = record { variable = b.variable; low = expression b.low.value; tested = b.tested; high = expression b.high.value; stepped = b.stepped }

abbrev mutual
  pub statement : stmts.Stmt → Statement
  statement (stmts.Empty at) = Empty
  statement (stmts.Block' at shape row) = Block (row_view row)
  statement (stmts.Declare locals) = Declare (locals_of locals.items)
  statement (stmts.Reducer r) = Statement.Reducer r
  statement (stmts.Assign a) = Assign (assignment a.value)
  statement (stmts.Invoke how c) = Statement.Invoke how (call c.value)
  statement (stmts.AssignCall name how c) = AssignCall name how (call c.value)
  statement (stmts.Sync at) = Sync
  statement (stmts.If' at e p s) = If (expression e.value) (statement s)
  statement (stmts.IfElse' at e p s q other) = IfElse (expression e.value) (statement s) (statement other)
  statement (stmts.While' at e p s) = While (expression e.value) (statement s)
  statement (stmts.For' at h p s) = repetition h.value (statement s)
  statement (stmts.ParallelFor' at b p s) = ParallelFor (bounds b.value) (statement s)
  statement (stmts.Return at e) = Return at (optional e)
  statement (stmts.Print at e) = Print (expression e.value)
  statement (stmts.Update name e) = Update name (expression e.value)
  statement (stmts.Set name e) = Statement.Set name (expression e.value)

  pub row_view : {n : _} → stmts.Row_of-Stmt n → Statements
  row_view stmts.end_of-Stmt = End
  row_view (stmts.more_of-Stmt s row) = Then (statement s) (row_view row)

-- a list of statements
abbrev pub statements : List stmts.Stmt → Statements
statements [] = End
statements (s ∷ list) = Then (statement s) (statements list)

abbrev pub item : declared.Item → Item
item (items.Globals variables) = Globals variables.items
item (items.Reducer r) = Item.Reducer r
item (items.Function returns name parameters body end) = Function returns name parameters.items (statements body.items)

abbrev pub items_of : List declared.Item → List Item
items_of [] = []
items_of (i ∷ list) = item i ∷ items_of list

-- the program of a tree
abbrev pub program : Tree → List Item
program t = items_of t.items.items

-- the bytes of a name in a text
abbrev pub bytes_of : List ℕ → Name → List ℕ
bytes_of text name = take (name.end - name.at) (drop name.at text)

-- the value that a global variable has as a run begins
abbrev pub opening_value : Initializer → ℤ
opening_value initializers.Absent = pos 0
opening_value (initializers.Number n) = n
opening_value (initializers.Negative n) = word_of (neg_ℤ n)
