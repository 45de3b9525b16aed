-- The result of one pass over a tree, wrong names included: a wrong variable reads as 0, and a
-- statement with a wrong name does nothing. If no name is wrong, this is the resolved program.
use Rattle.std.specs.Prelude.{ℕ, pos, negsuc, List, [], ◌∷◌, ◌++◌, map, Option, Some, None, option_map}
use Rattle.std.specs.Option.{option_to_list}
use Rattle.cilk_syntax.specs.declared.tree.Name.{Name}
use Rattle.cilk_types.specs.declared.invocation.Invocation.{Invocation}
use Rattle.cilk_syntax.specs.Trees as trees
use Rattle.cilk_syntax.specs.Trees.{Item, Globals, Function}
use Rattle.cilk_program.specs.declared.syntax.Array.{Array}
use Rattle.cilk_program.specs.declared.syntax.Place.{Place}
use Rattle.cilk_program.specs.declared.syntax.Place.TheVariants.{Local}
use Rattle.cilk_program.specs.declared.syntax.Reducer.{Reducer}
use Rattle.cilk_program.specs.Syntax as syntax
use Rattle.cilk_program.specs.Syntax.{Expression, Number, Variable, Element, Value, Input, InputCount, Target, ToVariable, ToElement, Invoke, Declaration, Zero, Opening, Invoking, Statement, Empty, Block, Declare, Assign, Change, Step, Invokes, Sync, If, IfElse, For, ParallelFor, Print, Update, Set, Return, Statements, Nothing, Then, Loop}
use Rattle.cilk_names.specs.declared.signature.ParameterKind.{ParameterKind}
use Rattle.cilk_names.specs.declared.signature.ParameterKind.TheVariants as kinds
use Rattle.cilk_names.specs.Names.{Names}
use Rattle.cilk_names.specs.Contexts.{Context, inside, behind_scope, ahead, with_variable, behind_beginning, in_body, behind, behind_row, with_parameters}
use Rattle.cilk_names.specs.Sights.{variable, array, reducer, called, signature_of}
use Rattle.cilk_names.specs.Calls.{first_of, rest_of, bare_name}
use Rattle.cilk_names.specs.Globals.{Known, in_function, behind_item}
use Rattle.cilk_names.specs.Operators.{prefixed, joined}

abbrev pub read_of : Option Place → Expression
read_of None = Number (pos 0)
read_of (Some x) = Variable x

abbrev pub element_of : Option Array → Expression → Expression
element_of None e = Number (pos 0)
element_of (Some a) e = Element a e

abbrev pub value_of : Option Reducer → Expression
value_of None = Number (pos 0)
value_of (Some r) = Value r

abbrev pub expression_of : Names → trees.Expression → Expression
expression_of names (trees.Number n) = Number n
expression_of names (trees.Expression.Variable x) = read_of (variable names x)
expression_of names (trees.Expression.Element x e) = element_of (array names x) (expression_of names e)
expression_of names (trees.Group e) = expression_of names e
expression_of names (trees.Unary op e) = prefixed op (expression_of names e)
expression_of names (trees.Binary op a b) = joined op (expression_of names a) (expression_of names b)
expression_of names (trees.Expression.Value x) = value_of (reducer names x)
expression_of names (trees.Input e) = Input (expression_of names e)
expression_of names trees.InputCount = InputCount

abbrev pub optional_of : Names → Option trees.Expression → Option Expression
optional_of names None = None
optional_of names (Some e) = Some (expression_of names e)

abbrev pub to_variable : Option Place → Option Target
to_variable None = None
to_variable (Some x) = Some (ToVariable x)

abbrev pub to_element : Option Array → Expression → Option Target
to_element None e = None
to_element (Some a) e = Some (ToElement a e)

abbrev pub target_of : Names → trees.Lvalue → Option Target
target_of names (trees.Lvalue.Variable x) = to_variable (variable names x)
target_of names (trees.Lvalue.Element x e) = to_element (array names x) (expression_of names e)

-- a statement, if its part exists
abbrev pub or_empty : {A : Type 0} → Option A → (A → Statement) → Statement
or_empty None f = Empty
or_empty (Some x) f = f x

abbrev pub target_in : trees.Assignment → trees.Lvalue
target_in (trees.Assignment.Set p e) = p
target_in (trees.Compound op p e) = p
target_in (trees.Increment p) = p
target_in (trees.Decrement p) = p

abbrev pub assignment_of : Names → trees.Assignment → Statement
assignment_of names (trees.Assignment.Set p e) = or_empty (target_of names p) (λ t. Assign t (expression_of names e))
assignment_of names (trees.Compound op p e) = or_empty (target_of names p) (λ t. Change t op (expression_of names e))
assignment_of names (trees.Increment p) = or_empty (target_of names p) (λ t. Step t (pos 1))
assignment_of names (trees.Decrement p) = or_empty (target_of names p) (λ t. Step t (negsuc 0))

-- a row of one statement or of none
abbrev pub optional_row : Names → Option trees.Assignment → Statements
optional_row names None = Nothing
optional_row names (Some a) = Then (assignment_of names a) Nothing

abbrev pub word_of_argument : Names → ParameterKind → trees.Argument → List Expression
word_of_argument names kinds.Word a = expression_of names a.value ∷ []
word_of_argument names (kinds.Reducer k) a = []

abbrev pub bare_reducer : Names → Option Name → Option Reducer
bare_reducer names None = None
bare_reducer names (Some x) = reducer names x

abbrev pub reducer_of_argument : Names → ParameterKind → trees.Argument → List Reducer
reducer_of_argument names kinds.Word a = []
reducer_of_argument names (kinds.Reducer k) a = option_to_list (bare_reducer names (bare_name a.value))

abbrev pub words_of : Names → List ParameterKind → List trees.Argument → List Expression
words_of names ks [] = []
words_of names ks (a ∷ list) = word_of_argument names (first_of ks) a ++ words_of names (rest_of ks) list

abbrev pub reducers_of : Names → List ParameterKind → List trees.Argument → List Reducer
reducers_of names ks [] = []
reducers_of names ks (a ∷ list) = reducer_of_argument names (first_of ks) a ++ reducers_of names (rest_of ks) list

abbrev pub invoke_of : Names → Invocation → trees.Call → Option Place → Option Invoke
invoke_of names how c result =
    let s = signature_of names (called names c.name) in
    option_map (λ n. record {
      how = how;
      function = n;
      arguments = words_of names s.parameters c.arguments;
      reducers = reducers_of names s.parameters c.arguments;
      result = result;
    })
    (called names c.name)

-- a declaration of a numbered cell
abbrev pub invoking : ℕ → Option Invoke → Declaration
invoking n None = Zero n
invoking n (Some i) = Invoking i

abbrev pub declaration_of : Names → ℕ → trees.LocalInitializer → Declaration
declaration_of names n trees.Absent = Zero n
declaration_of names n (trees.LocalInitializer.Value e) = Opening n (expression_of names e)
declaration_of names n (trees.LocalInitializer.Invoke how c) = invoking n (invoke_of names how c (Some (Local 0 n)))

abbrev pub declarations_of : Context → List trees.Local → List Declaration
declarations_of c [] = []
declarations_of c (l ∷ ls) = let c' = with_variable c l.name in declaration_of c'.names c.frame.cells l.initializer ∷ declarations_of c' ls

abbrev pub beginning_of : Context → Option trees.Beginning → Statements
beginning_of c None = Nothing
beginning_of c (Some (trees.Declares x e)) = let c' = with_variable c x in Then (Declare (Opening c.frame.cells (expression_of c'.names e) ∷ [])) Nothing
beginning_of c (Some (trees.Assigns a)) = Then (assignment_of c.names a) Nothing

abbrev mutual
  pub statement_of : Context → trees.Statement → Statement
  statement_of c trees.Empty = Empty
  statement_of c (trees.Block row) = Block (row_of (inside c) row)
  statement_of c (trees.Declare ls) = Declare (declarations_of c ls)
  statement_of c (trees.Statement.Reducer r) = Empty
  statement_of c (trees.Assign a) = assignment_of c.names a
  statement_of c (trees.Statement.Invoke how k) = or_empty (invoke_of c.names how k None) Invokes
  statement_of c (trees.AssignCall x how k) = or_empty (invoke_of c.names how k (variable c.names x)) Invokes
  statement_of c trees.Sync = Sync
  statement_of c (trees.If e s) = If (expression_of c.names e) (statement_of (inside c) s)
  statement_of c (trees.IfElse e s other) =
      IfElse (expression_of c.names e) (statement_of (inside c) s) (statement_of (inside (behind_scope c (behind (inside c) s))) other)
  statement_of c (trees.While e s) = For Nothing (Some (expression_of c.names e)) Nothing (statement_of (inside c) s)
  statement_of c (trees.For b e a s) =
      let c' = behind_beginning (inside c) b in
      For (beginning_of (inside c) b) (optional_of c'.names e) (optional_row c'.names a) (statement_of (inside c') s)
  statement_of c (trees.ParallelFor b s) = ParallelFor (expression_of c.names b.low) (expression_of c.names b.high) c.loops
  statement_of c (trees.Return place e) = Return (optional_of c.names e)
  statement_of c (trees.Print e) = Print (expression_of c.names e)
  statement_of c (trees.Update x e) = or_empty (reducer c.names x) (λ r. Update r (expression_of c.names e))
  statement_of c (trees.Statement.Set x e) = or_empty (reducer c.names x) (λ r. Set r (expression_of c.names e))

  pub row_of : Context → trees.Statements → Statements
  row_of c trees.End = Nothing
  row_of c (trees.Then s row) = Then (statement_of (ahead c s) s) (row_of (behind (ahead c s) s) row)

-- a parallel loop
abbrev pub loop_of : Context → Name → trees.Statement → Loop
loop_of c x s =
    let c' = inside (in_body c x) in
    let after = behind c' s in
    record { within = c.frame.body; cells = after.frame.cells; body = Then (statement_of c' s) Nothing }

abbrev mutual
  -- the parallel loops of a statement, each before those in its body
  pub loops_of : Context → trees.Statement → List Loop
  loops_of c trees.Empty = []
  loops_of c (trees.Block row) = row_loops (inside c) row
  loops_of c (trees.Declare ls) = []
  loops_of c (trees.Statement.Reducer r) = []
  loops_of c (trees.Assign a) = []
  loops_of c (trees.Statement.Invoke how k) = []
  loops_of c (trees.AssignCall x how k) = []
  loops_of c trees.Sync = []
  loops_of c (trees.If e s) = loops_of (inside c) s
  loops_of c (trees.IfElse e s other) = loops_of (inside c) s ++ loops_of (inside (behind_scope c (behind (inside c) s))) other
  loops_of c (trees.While e s) = loops_of (inside c) s
  loops_of c (trees.For b e a s) = loops_of (inside (behind_beginning (inside c) b)) s
  loops_of c (trees.ParallelFor b s) = loop_of c b.variable s ∷ loops_of (inside (in_body c b.variable)) s
  loops_of c (trees.Return place e) = []
  loops_of c (trees.Print e) = []
  loops_of c (trees.Update x e) = []
  loops_of c (trees.Statement.Set x e) = []

  pub row_loops : Context → trees.Statements → List Loop
  row_loops c trees.End = []
  row_loops c (trees.Then s row) = loops_of (ahead c s) s ++ row_loops (behind (ahead c s) s) row

-- the body of a function
abbrev pub function_of_body : Context → trees.Statements → syntax.Function
function_of_body c body =
    let after = behind_row c body in
    record { words = c.frame.cells; given = after.given; cells = after.frame.cells; reducers = after.own; body = row_of c body }

abbrev pub item_functions : Known → Item → List syntax.Function
item_functions k (Globals vs) = []
item_functions k (Item.Reducer r) = []
item_functions k (Function returns x ps body) = function_of_body (with_parameters (in_function k returns x) ps) body ∷ []

abbrev pub item_loops : Known → Item → List Loop
item_loops k (Globals vs) = []
item_loops k (Item.Reducer r) = []
item_loops k (Function returns x ps body) = row_loops (with_parameters (in_function k returns x) ps) body

abbrev pub items_functions : Known → List Item → List syntax.Function
items_functions k [] = []
items_functions k (i ∷ rest) = item_functions k i ++ items_functions (behind_item k i) rest

abbrev pub items_loops : Known → List Item → List Loop
items_loops k [] = []
items_loops k (i ∷ rest) = item_loops k i ++ items_loops (behind_item k i) rest
