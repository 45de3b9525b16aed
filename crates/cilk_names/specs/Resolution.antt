-- The program of a tree, case by case: each name is replaced by what it refers to there, and groups
-- are dropped.
use Rattle.std.specs.Prelude.{◌≡◌, ℕ, pos, negsuc, List, [], ◌∷◌, ◌++◌, map, Option, Some, None}
use Rattle.cilk_syntax.specs.declared.tree.Name.{Name}
use Rattle.cilk_syntax.specs.declared.tree.Tree.{Tree}
use Rattle.cilk_types.specs.declared.invocation.Invocation.{Invocation}
use Rattle.cilk_syntax.specs.Trees as trees
use Rattle.cilk_syntax.specs.Trees.{Item, Globals, Function, program}
use Rattle.cilk_program.specs.declared.program.GlobalReducer.{GlobalReducer}
use Rattle.cilk_program.specs.declared.syntax.Array.{Array}
use Rattle.cilk_program.specs.declared.syntax.Place.{Place}
use Rattle.cilk_program.specs.declared.syntax.Place.TheVariants.{Local}
use Rattle.cilk_program.specs.declared.syntax.Reducer.{Reducer}
use Rattle.cilk_program.specs.Syntax as syntax
use Rattle.cilk_program.specs.Syntax.{Expression, Number, Variable, Element, Value, Input, InputCount, Target, ToVariable, ToElement, Invoke, Declaration, Zero, Opening, Invoking, Statement, Empty, Block, Declare, Assign, Change, Step, Invokes, Sync, If, IfElse, For, ParallelFor, Print, Update, Set, Return, Statements, Nothing, Then, Loop, Source}
use Rattle.cilk_names.specs.declared.signature.ParameterKind.{ParameterKind}
use Rattle.cilk_names.specs.declared.signature.ParameterKind.TheVariants as kinds
use Rattle.cilk_names.specs.Names.{Names}
use Rattle.cilk_names.specs.Contexts.{Context, inside, behind_scope, ahead, with_variable, behind_beginning, in_body, behind, behind_row, with_parameters}
use Rattle.cilk_names.specs.Sights.{variable, array, reducer, called, signature_of}
use Rattle.cilk_names.specs.Calls.{bare_name}
use Rattle.cilk_names.specs.Globals.{Known, start, in_function, behind_item, behind_items, main_of}
use Rattle.cilk_names.specs.Misnamings.{faults_of}
use Rattle.cilk_names.specs.Operators.{prefixed, joined}

-- an expression of the tree resolves to an expression
abbrev pub ResolvesExpression : Names → trees.Expression → Expression → Type 0
ResolvesExpression names (trees.Number n) r = r ≡ Number n
ResolvesExpression names (trees.Expression.Variable x) r = (p : Place) × (variable names x ≡ Some p) × (r ≡ Variable p)
ResolvesExpression names (trees.Expression.Element x e) r =
    (a : Array) × (e' : Expression) × (array names x ≡ Some a) × ResolvesExpression names e e' × (r ≡ Element a e')
ResolvesExpression names (trees.Group e) r = ResolvesExpression names e r
ResolvesExpression names (trees.Unary op e) r = (e' : Expression) × ResolvesExpression names e e' × (r ≡ prefixed op e')
ResolvesExpression names (trees.Binary op a b) r =
    (a' b' : Expression) × ResolvesExpression names a a' × ResolvesExpression names b b' × (r ≡ joined op a' b')
ResolvesExpression names (trees.Expression.Value x) r = (k : Reducer) × (reducer names x ≡ Some k) × (r ≡ Value k)
ResolvesExpression names (trees.Input e) r = (e' : Expression) × ResolvesExpression names e e' × (r ≡ Input e')
ResolvesExpression names trees.InputCount r = r ≡ InputCount

abbrev pub ResolvesOptional : Names → Option trees.Expression → Option Expression → Type 0
ResolvesOptional names None r = r ≡ None
ResolvesOptional names (Some e) r = (e' : Expression) × ResolvesExpression names e e' × (r ≡ Some e')

-- the target of an assignment
abbrev pub ResolvesPlace : Names → trees.Lvalue → Target → Type 0
ResolvesPlace names (trees.Lvalue.Variable x) t = (p : Place) × (variable names x ≡ Some p) × (t ≡ ToVariable p)
ResolvesPlace names (trees.Lvalue.Element x e) t = (a : Array) × (e' : Expression) × (array names x ≡ Some a) × ResolvesExpression names e e' × (t ≡ ToElement a e')

abbrev pub ResolvesAssignment : Names → trees.Assignment → Statement → Type 0
ResolvesAssignment names (trees.Assignment.Set p e) r = (t : Target) × (e' : Expression) × ResolvesPlace names p t × ResolvesExpression names e e' × (r ≡ Assign t e')
ResolvesAssignment names (trees.Compound op p e) r =
    (t : Target) × (e' : Expression) × ResolvesPlace names p t × ResolvesExpression names e e' × (r ≡ Change t op e')
ResolvesAssignment names (trees.Increment p) r = (t : Target) × ResolvesPlace names p t × (r ≡ Step t (pos 1))
ResolvesAssignment names (trees.Decrement p) r = (t : Target) × ResolvesPlace names p t × (r ≡ Step t (negsuc 0))

abbrev pub ResolvesStep : Names → Option trees.Assignment → Statements → Type 0
ResolvesStep names None r = r ≡ Nothing
ResolvesStep names (Some a) r = (s : Statement) × ResolvesAssignment names a s × (r ≡ Then s Nothing)

-- a reducer is passed on by its bare name
abbrev pub ResolvesBare : Names → trees.Expression → Reducer → Type 0
ResolvesBare names e r = (x : Name) × (bare_name e ≡ Some x) × (reducer names x ≡ Some r)

-- the arguments of a call are words and reducers, matching the function's parameters
abbrev pub ResolvesArguments : Names → List ParameterKind → List trees.Argument → List Expression → List Reducer → Type 0
ResolvesArguments names [] [] ws rs = (ws ≡ []) × (rs ≡ [])
ResolvesArguments names [] (a ∷ list) ws rs = ⊥
ResolvesArguments names (k ∷ ks) [] ws rs = ⊥
ResolvesArguments names (kinds.Word ∷ ks) (a ∷ list) ws rs =
    (w : Expression) × (ws' : List Expression) × ResolvesExpression names a.value w × ResolvesArguments names ks list ws' rs × (ws ≡ w ∷ ws')
ResolvesArguments names (kinds.Reducer k ∷ ks) (a ∷ list) ws rs =
    (r : Reducer) × (rs' : List Reducer) × ResolvesBare names a.value r × (k ≡ Some r.kind) × ResolvesArguments names ks list ws rs' × (rs ≡ r ∷ rs')

-- a call of a function, with the variable for its result
abbrev pub ResolvesCall : Names → Invocation → trees.Call → Option Place → Invoke → Type 0
ResolvesCall names how c place i =
    (n : ℕ) × (ws : List Expression) × (rs : List Reducer) × (called names c.name ≡ Some n)
    × (let s = signature_of names (Some n) in ResolvesArguments names s.parameters c.arguments ws rs)
    × (i ≡ record { how = how; function = n; arguments = ws; reducers = rs; result = place })

-- the initializer of a declared variable, in its cell
abbrev pub ResolvesInitializer : Names → ℕ → trees.LocalInitializer → Declaration → Type 0
ResolvesInitializer names n trees.Absent d = d ≡ Zero n
ResolvesInitializer names n (trees.LocalInitializer.Value e) d = (e' : Expression) × ResolvesExpression names e e' × (d ≡ Opening n e')
ResolvesInitializer names n (trees.LocalInitializer.Invoke how c) d = (i : Invoke) × ResolvesCall names how c (Some (Local 0 n)) i × (d ≡ Invoking i)

-- a declared variable is in the next cell, and is known in its own initializer
abbrev pub ResolvesLocals : Context → List trees.Local → List Declaration → Type 0
ResolvesLocals c [] ds = ds ≡ []
ResolvesLocals c (l ∷ ls) ds =
    (d : Declaration) × (ds' : List Declaration)
    × (let c' = with_variable c l.name in ResolvesInitializer c'.names c.frame.cells l.initializer d) × ResolvesLocals (with_variable c l.name) ls ds' × (ds ≡ d ∷ ds')

abbrev pub ResolvesBeginning : Context → Option trees.Beginning → Statements → Type 0
ResolvesBeginning c None r = r ≡ Nothing
ResolvesBeginning c (Some (trees.Declares x e)) r =
    (e' : Expression) × (let c' = with_variable c x in ResolvesExpression c'.names e e') × (r ≡ Then (Declare (Opening c.frame.cells e' ∷ [])) Nothing)
ResolvesBeginning c (Some (trees.Assigns a)) r = (s : Statement) × ResolvesAssignment c.names a s × (r ≡ Then s Nothing)

abbrev mutual
  -- a statement resolves to a statement, and to the loops in it, each before those in its body
  pub ResolvesStatement : Context → trees.Statement → Statement → List Loop → Type 0
  ResolvesStatement c trees.Empty r ls = (r ≡ Empty) × (ls ≡ [])
  ResolvesStatement c (trees.Block row) r ls = (row' : Statements) × ResolvesRow (inside c) row row' ls × (r ≡ Block row')
  ResolvesStatement c (trees.Declare vs) r ls = (ds : List Declaration) × ResolvesLocals c vs ds × (r ≡ Declare ds) × (ls ≡ [])
  ResolvesStatement c (trees.Statement.Reducer x) r ls = (r ≡ Empty) × (ls ≡ [])
  ResolvesStatement c (trees.Assign a) r ls = ResolvesAssignment c.names a r × (ls ≡ [])
  ResolvesStatement c (trees.Statement.Invoke how k) r ls = (i : Invoke) × ResolvesCall c.names how k None i × (r ≡ Invokes i) × (ls ≡ [])
  ResolvesStatement c (trees.AssignCall x how k) r ls =
      (p : Place) × (i : Invoke) × (variable c.names x ≡ Some p) × ResolvesCall c.names how k (Some p) i × (r ≡ Invokes i) × (ls ≡ [])
  ResolvesStatement c trees.Sync r ls = (r ≡ Sync) × (ls ≡ [])
  ResolvesStatement c (trees.If e s) r ls =
      (e' : Expression) × (s' : Statement) × ResolvesExpression c.names e e' × ResolvesStatement (inside c) s s' ls × (r ≡ If e' s')
  ResolvesStatement c (trees.IfElse e s other) r ls =
      (e' : Expression) × (s' other' : Statement) × (first second : List Loop) × ResolvesExpression c.names e e' × ResolvesStatement (inside c) s s' first
      × ResolvesStatement (inside (behind_scope c (behind (inside c) s))) other other' second × (r ≡ IfElse e' s' other') × (ls ≡ first ++ second)
  ResolvesStatement c (trees.While e s) r ls =
      (e' : Expression) × (s' : Statement) × ResolvesExpression c.names e e' × ResolvesStatement (inside c) s s' ls × (r ≡ For Nothing (Some e') Nothing s')
  ResolvesStatement c (trees.For b e a s) r ls =
      (b' : Statements) × (e' : Option Expression) × (a' : Statements) × (s' : Statement) × ResolvesBeginning (inside c) b b'
      × (let h = behind_beginning (inside c) b in ResolvesOptional h.names e e') × (let h = behind_beginning (inside c) b in ResolvesStep h.names a a')
      × ResolvesStatement (inside (behind_beginning (inside c) b)) s s' ls × (r ≡ For b' e' a' s')
  ResolvesStatement c (trees.ParallelFor b s) r ls =
      (low high : Expression) × (s' : Statement) × (inner : List Loop) × ResolvesExpression c.names b.low low × ResolvesExpression c.names b.high high
      × ResolvesStatement (inside (in_body c b.variable)) s s' inner × (r ≡ ParallelFor low high c.loops)
      × (let after = behind (inside (in_body c b.variable)) s in ls ≡ record { within = c.frame.body; cells = after.frame.cells; body = Then s' Nothing } ∷ inner)
  ResolvesStatement c (trees.Return place e) r ls = (e' : Option Expression) × ResolvesOptional c.names e e' × (r ≡ Return e') × (ls ≡ [])
  ResolvesStatement c (trees.Print e) r ls = (e' : Expression) × ResolvesExpression c.names e e' × (r ≡ Print e') × (ls ≡ [])
  ResolvesStatement c (trees.Update x e) r ls =
      (k : Reducer) × (e' : Expression) × (reducer c.names x ≡ Some k) × ResolvesExpression c.names e e' × (r ≡ Update k e') × (ls ≡ [])
  ResolvesStatement c (trees.Statement.Set x e) r ls =
      (k : Reducer) × (e' : Expression) × (reducer c.names x ≡ Some k) × ResolvesExpression c.names e e' × (r ≡ Set k e') × (ls ≡ [])

  pub ResolvesRow : Context → trees.Statements → Statements → List Loop → Type 0
  ResolvesRow c trees.End r ls = (r ≡ Nothing) × (ls ≡ [])
  ResolvesRow c (trees.Then s row) r ls =
      (s' : Statement) × (row' : Statements) × (first second : List Loop) × ResolvesStatement (ahead c s) s s' first × ResolvesRow (behind (ahead c s) s) row row' second
      × (r ≡ Then s' row') × (ls ≡ first ++ second)

-- the functions of these items, in order, and the loops in them
abbrev pub ResolvesItems : Known → List Item → List syntax.Function → List Loop → Type 0
ResolvesItems k [] fs ls = (fs ≡ []) × (ls ≡ [])
ResolvesItems k (Globals vs ∷ rest) fs ls = ResolvesItems (behind_item k (Globals vs)) rest fs ls
ResolvesItems k (Item.Reducer r ∷ rest) fs ls = ResolvesItems (behind_item k (Item.Reducer r)) rest fs ls
ResolvesItems k (Function returns x ps body ∷ rest) fs ls =
    (row : Statements) × (fs' : List syntax.Function) × (first second : List Loop) × ResolvesRow (with_parameters (in_function k returns x) ps) body row first
    × ResolvesItems (behind_item k (Function returns x ps body)) rest fs' second
    × (let c = with_parameters (in_function k returns x) ps in let after = behind_row c body in
    fs ≡ record { words = c.frame.cells; given = after.given; cells = after.frame.cells; reducers = after.own; body = row } ∷ fs')
    × (ls ≡ first ++ second)

-- a tree without faults resolves to its global cells and reducers, functions and loops, and the
-- number of its main function
pub record Resolves (t : Tree) (s : Source) : Type 0 where
  pub right : faults_of t ≡ []
  pub openings : let after = behind_items (start t.text.items (program t)) (program t) in s.openings ≡ after.openings
  pub reducers : let after = behind_items (start t.text.items (program t)) (program t) in s.reducers ≡ map (λ r. r.kind) after.shared
  pub functions : ResolvesItems (start t.text.items (program t)) (program t) s.functions s.loops
  pub main : main_of t.text.items 0 (program t) ≡ Some s.main

-- the global reducers of a tree, in order
abbrev pub shared_of : Tree → List GlobalReducer
shared_of t = let after = behind_items (start t.text.items (program t)) (program t) in after.shared
