-- The meaning of the code's programs as sources.
use Rattle.std.specs.Prelude.{ℕ, ℤ, List, [], ◌∷◌, map, Option, Some, None, Box}
use Rattle.std.specs.declared.alloc.Global.{Global}
use Rattle.cilk_monoid.specs.declared.kind.MonoidKind.{MonoidKind}
use Rattle.cilk_program.specs.declared.syntax.Expr as exprs
use Rattle.cilk_program.specs.declared.syntax.Stmt as stmts
use Rattle.cilk_program.specs.declared.syntax.Target as declared_targets
use Rattle.cilk_program.specs.declared.syntax.Target.TheVariants as targets
use Rattle.cilk_program.specs.declared.syntax.Invoke as declared_invokes
use Rattle.cilk_program.specs.declared.syntax.Declaration as declared_declarations
use Rattle.cilk_program.specs.declared.syntax.Declaration.TheVariants as declarations
use Rattle.cilk_program.specs.declared.program.Function as declared_functions
use Rattle.cilk_program.specs.declared.program.Loop as declared_loops
use Rattle.cilk_program.specs.declared.program.GlobalReducer.{GlobalReducer}
use Rattle.cilk_program.specs.Syntax.{Expression, Number, Variable, Element, Negate, Not, Binary, And, Or, Value, Input, InputCount, Target, ToVariable, ToElement, Invoke, Declaration, Zero, Opening, Invoking, Statement, Empty, Block, Declare, Assign, Change, Step, Invokes, Sync, If, IfElse, For, ParallelFor, Print, Update, Set, Return, Statements, Nothing, Then, Function, Loop, Source}

abbrev pub expression : exprs.Expr → Expression
expression (exprs.Number at n) = Number n.value
expression (exprs.Variable at x) = Variable x
expression (exprs.Element' at a p e) = Element a (expression e)
expression (exprs.Negate' at p e) = Negate (expression e)
expression (exprs.Not' at p e) = Not (expression e)
expression (exprs.Binary' at op p a q b) = Binary op (expression a) (expression b)
expression (exprs.And' at p a q b) = And (expression a) (expression b)
expression (exprs.Or' at p a q b) = Or (expression a) (expression b)
expression (exprs.Value at r) = Value r
expression (exprs.Input' at p e) = Input (expression e)
expression (exprs.InputCount at) = InputCount

abbrev pub optional : Option (Box exprs.Expr Global) → Option Expression
optional None = None
optional (Some e) = Some (expression e.value)

abbrev pub target : declared_targets.Target → Target
target (targets.Variable at x) = ToVariable x
target (targets.Element at a e) = ToElement a (expression e.value)

abbrev pub invoke : declared_invokes.Invoke → Invoke
invoke i = record { how = i.how; function = i.function; arguments = map expression i.arguments.items; reducers = i.reducers.items; result = i.result }

abbrev pub declaration : declared_declarations.Declaration → Declaration
declaration (declarations.Zero at n) = Zero n
declaration (declarations.Value at n e) = Opening n (expression e)
declaration (declarations.Invoke i) = Invoking (invoke i)

abbrev mutual
  pub statement : stmts.Stmt → Statement
  statement (stmts.Empty at) = Empty
  statement (stmts.Block' at shape row) = Block (row_view row)
  statement (stmts.Declare row) = Declare (map declaration row.items)
  statement (stmts.Assign t e) = Assign (target t) (expression e)
  statement (stmts.Change op t at e) = Change (target t) op (expression e)
  statement (stmts.Step t n) = Step (target t) n
  statement (stmts.Invoke i) = Invokes (invoke i)
  statement (stmts.Sync at) = Sync
  statement (stmts.If' at e p s) = If (expression e) (statement s)
  statement (stmts.IfElse' at e p s q other) = IfElse (expression e) (statement s) (statement other)
  statement (stmts.For' at shape row test shape2 row2 p s) = For (row_view row) (optional test) (row_view row2) (statement s)
  statement (stmts.ParallelFor at a b n) = ParallelFor (expression a.value) (expression b.value) n
  statement (stmts.Print at e) = Print (expression e)
  statement (stmts.Update at r e) = Update r (expression e)
  statement (stmts.Set at r e) = Set r (expression e)
  statement (stmts.Return at e) = Return (optional e)

  pub row_view : {n : _} → stmts.Row_of-Stmt n → Statements
  row_view stmts.end_of-Stmt = Nothing
  row_view (stmts.more_of-Stmt s row) = Then (statement s) (row_view row)

-- the statements of a list, in order
abbrev pub statements : List stmts.Stmt → Statements
statements [] = Nothing
statements (s ∷ list) = Then (statement s) (statements list)

abbrev pub function : declared_functions.Function → Function
function f = record { words = f.words; given = f.given; cells = f.cells; reducers = f.reducers; body = statements f.body.items }

abbrev pub loop : declared_loops.Loop → Loop
loop l = record { within = l.within; cells = l.cells; body = statements l.body.items }

-- the source that these parts make
abbrev pub source_of : List ℤ → List GlobalReducer → List declared_functions.Function → List declared_loops.Loop → ℕ → Source
source_of globals reducers functions loops main = record { openings = globals; reducers = map (λ r. r.kind) reducers; functions = map function functions; loops = map loop loops; main = main }
