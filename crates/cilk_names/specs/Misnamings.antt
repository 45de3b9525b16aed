-- The faults of a tree's names, in the order of the tree.
use Rattle.std.specs.Prelude.{◌≡◌, ℕ, ◌+◌, nat_lt, nat_eq, Bool, true, false, not, ◌||◌, List, [], ◌∷◌, ◌++◌, Option, Some, None, length, All, Contains, bytes_eq}
use Rattle.cilk_monoid.specs.declared.kind.MonoidKind.{MonoidKind}
use Rattle.cilk_syntax.specs.declared.tree.Name.{Name}
use Rattle.cilk_syntax.specs.declared.tree.GlobalVariable.{GlobalVariable}
use Rattle.cilk_syntax.specs.declared.tree.GlobalVariable.TheVariants as globals
use Rattle.cilk_syntax.specs.declared.tree.Parameter.{Parameter}
use Rattle.cilk_syntax.specs.declared.tree.Parameter.TheVariants as parameters
use Rattle.cilk_syntax.specs.declared.tree.ReturnType.{ReturnType}
use Rattle.cilk_syntax.specs.declared.tree.ReturnType.TheVariants.{Int, Void}
use Rattle.cilk_syntax.specs.declared.tree.Reducer.{Reducer}
use Rattle.cilk_syntax.specs.declared.tree.Tree.{Tree}
use Rattle.cilk_syntax.specs.Trees as trees
use Rattle.cilk_syntax.specs.Trees.{Expression, Item, Globals, Function, bytes_of, program}
use Rattle.cilk_names.specs.Faults.{at, unless, name_faults, variable_faults, array_faults, reducer_faults, function_faults, written_faults, again_faults, monoid_faults, is_before}
use Rattle.cilk_names.specs.declared.limits.TheConstants.{MAX_CELLS, MAX_FUNCTIONS, MAX_PARAMETERS, MAX_REDUCERS}
use Rattle.cilk_names.specs.declared.signature.ParameterKind.{ParameterKind}
use Rattle.cilk_names.specs.declared.signature.ParameterKind.TheVariants as kinds
use Rattle.cilk_names.specs.declared.signature.Signature.{Signature}
use Rattle.cilk_names.specs.declared.kind.NameErrorKind.TheVariants.{WrongCount, WrongKind, NoMain, ReturnInLoop, ReducerNotFirst, OverLimit}
use Rattle.cilk_names.specs.declared.kind.Misnaming.{Misnaming}
use Rattle.cilk_names.specs.declared.fault.NameFault.{NameFault}
use Rattle.cilk_names.specs.declared.fault.NameFault.TheVariants as faults
use Rattle.cilk_names.specs.Names.{Names, meaning}
use Rattle.cilk_names.specs.Contexts.{Context, inside, behind_scope, ahead, with_variable, behind_beginning, in_body, behind, with_parameter, with_parameters}
use Rattle.cilk_names.specs.Sights.{is_reducer_of, called, signature_of}
use Rattle.cilk_names.specs.Calls.{first_of, rest_of, bare_name}
use Rattle.cilk_names.specs.Globals.{Known, start, array_cells, globals_full, in_function, behind_global, behind_item, main_of}

abbrev pub expression_faults : Names → Expression → List Misnaming
expression_faults names (trees.Number n) = []
expression_faults names (Expression.Variable x) = variable_faults names x
expression_faults names (Expression.Element x e) = array_faults names x ++ expression_faults names e
expression_faults names (trees.Group e) = expression_faults names e
expression_faults names (trees.Unary op e) = expression_faults names e
expression_faults names (trees.Binary op a b) = expression_faults names a ++ expression_faults names b
expression_faults names (Expression.Value x) = reducer_faults names x
expression_faults names (trees.Input e) = expression_faults names e
expression_faults names trees.InputCount = []

abbrev pub optional_faults : Names → Option Expression → List Misnaming
optional_faults names None = []
optional_faults names (Some e) = expression_faults names e

abbrev pub place_faults : Names → trees.Lvalue → List Misnaming
place_faults names (trees.Lvalue.Variable x) = written_faults names x
place_faults names (trees.Lvalue.Element x e) = array_faults names x ++ expression_faults names e

abbrev pub assignment_faults : Names → trees.Assignment → List Misnaming
assignment_faults names (trees.Assignment.Set p e) = place_faults names p ++ expression_faults names e
assignment_faults names (trees.Compound op p e) = place_faults names p ++ expression_faults names e
assignment_faults names (trees.Increment p) = place_faults names p
assignment_faults names (trees.Decrement p) = place_faults names p

abbrev pub optional_assignment_faults : Names → Option trees.Assignment → List Misnaming
optional_assignment_faults names None = []
optional_assignment_faults names (Some a) = assignment_faults names a

-- an argument for a reducer parameter must be the bare name of a reducer of the same monoid
abbrev pub bare_faults : Names → Option MonoidKind → ℕ → Expression → Option Name → List Misnaming
bare_faults names k place e None = at WrongKind place ++ expression_faults names e
bare_faults names k place e (Some x) = name_faults (is_reducer_of k) (meaning names x) place

abbrev pub argument_faults : Names → ParameterKind → trees.Argument → List Misnaming
argument_faults names kinds.Word a = expression_faults names a.value
argument_faults names (kinds.Reducer k) a = bare_faults names k a.at a.value (bare_name a.value)

abbrev pub arguments_faults : Names → List ParameterKind → List trees.Argument → List Misnaming
arguments_faults names ks [] = []
arguments_faults names ks (a ∷ list) = argument_faults names (first_of ks) a ++ arguments_faults names (rest_of ks) list

abbrev pub returns_word : ReturnType → Bool
returns_word Int = true
returns_word Void = false

-- a call has an argument for each parameter, and its function returns a value if the result is used
abbrev pub fit_faults : Option ℕ → Signature → Bool → trees.Call → List Misnaming
fit_faults None s taken c = []
fit_faults (Some n) s taken c = let f = s in unless (nat_eq (length c.arguments) (length f.parameters)) WrongCount c.name.at ++ unless (returns_word f.returns || not taken) WrongKind c.name.at

abbrev pub call_faults : Names → Bool → trees.Call → List Misnaming
call_faults names taken c =
    let s = signature_of names (called names c.name) in
    function_faults names c.name ++ fit_faults (called names c.name) s taken c ++ arguments_faults names s.parameters c.arguments

abbrev pub limit_faults : ℕ → ℕ → Name → List Misnaming
limit_faults limit n x = unless (nat_lt n limit) OverLimit x.at

-- a variable declared in a body
abbrev pub declared_faults : Context → Name → List Misnaming
declared_faults c x = again_faults c.names x ++ limit_faults MAX_CELLS c.frame.cells x

-- a reducer declared in a body
abbrev pub own_faults : Context → Reducer → List Misnaming
own_faults c r =
    monoid_faults c.names r ++ again_faults c.names r.name ++ unless c.frame.heading ReducerNotFirst r.name.at ++ limit_faults MAX_REDUCERS c.reducers r.name

-- a declared name is known after its declarator
abbrev pub initializer_faults : Names → trees.LocalInitializer → List Misnaming
initializer_faults names trees.Absent = []
initializer_faults names (trees.LocalInitializer.Value e) = expression_faults names e
initializer_faults names (trees.LocalInitializer.Invoke how c) = call_faults names true c

abbrev pub local_faults : Context → trees.Local → List Misnaming
local_faults c l = declared_faults c l.name ++ initializer_faults (with_variable c l.name).names l.initializer

abbrev pub locals_faults : Context → List trees.Local → List Misnaming
locals_faults c [] = []
locals_faults c (l ∷ ls) = local_faults c l ++ locals_faults (with_variable c l.name) ls

abbrev pub beginning_faults : Context → Option trees.Beginning → List Misnaming
beginning_faults c None = []
beginning_faults c (Some (trees.Declares x e)) = declared_faults c x ++ expression_faults (with_variable c x).names e
beginning_faults c (Some (trees.Assigns a)) = assignment_faults c.names a

-- the names in the head of a parallel loop are equal
abbrev pub same_faults : Names → Name → Name → List Misnaming
same_faults names x y = unless (bytes_eq (bytes_of names.text y) (bytes_of names.text x)) WrongKind y.at

abbrev pub head_faults : Names → trees.Bounds → List Misnaming
head_faults names b = expression_faults names b.low ++ same_faults names b.variable b.tested ++ expression_faults names b.high ++ same_faults names b.variable b.stepped

abbrev pub gives_what_it_returns : ReturnType → Option Expression → Bool
gives_what_it_returns Int None = false
gives_what_it_returns Int (Some e) = true
gives_what_it_returns Void None = true
gives_what_it_returns Void (Some e) = false

-- `return` has a value exactly if the function returns an `int`; a parallel loop's body doesn't
-- return
abbrev pub return_faults : Names → ReturnType → ℕ → Option Expression → List Misnaming
return_faults names returns place e =
    unless (nat_eq names.level 0) ReturnInLoop place ++ unless (gives_what_it_returns returns e) WrongKind place ++ optional_faults names e

abbrev mutual
  pub statement_faults : Context → trees.Statement → List Misnaming
  statement_faults c trees.Empty = []
  statement_faults c (trees.Block row) = row_faults (inside c) row
  statement_faults c (trees.Declare ls) = locals_faults c ls
  statement_faults c (trees.Statement.Reducer r) = own_faults c r
  statement_faults c (trees.Assign a) = assignment_faults c.names a
  statement_faults c (trees.Statement.Invoke how k) = call_faults c.names false k
  statement_faults c (trees.AssignCall x how k) = written_faults c.names x ++ call_faults c.names true k
  statement_faults c trees.Sync = []
  statement_faults c (trees.If e s) = expression_faults c.names e ++ statement_faults (inside c) s
  statement_faults c (trees.IfElse e s other) =
      expression_faults c.names e ++ statement_faults (inside c) s ++ statement_faults (inside (behind_scope c (behind (inside c) s))) other
  statement_faults c (trees.While e s) = expression_faults c.names e ++ statement_faults (inside c) s
  statement_faults c (trees.For b e a s) =
      let c' = behind_beginning (inside c) b in
      beginning_faults (inside c) b ++ optional_faults c'.names e ++ optional_assignment_faults c'.names a ++ statement_faults (inside c') s
  statement_faults c (trees.ParallelFor b s) = head_faults c.names b ++ statement_faults (inside (in_body c b.variable)) s
  statement_faults c (trees.Return place e) = return_faults c.names c.frame.returns place e
  statement_faults c (trees.Print e) = expression_faults c.names e
  statement_faults c (trees.Update x e) = reducer_faults c.names x ++ expression_faults c.names e
  statement_faults c (trees.Statement.Set x e) = reducer_faults c.names x ++ expression_faults c.names e

  pub row_faults : Context → trees.Statements → List Misnaming
  row_faults c trees.End = []
  row_faults c (trees.Then s row) = statement_faults (ahead c s) s ++ row_faults (behind (ahead c s) s) row

-- a parameter, within the limit
abbrev pub parameter_faults : Context → Parameter → List Misnaming
parameter_faults c (parameters.Variable x) = limit_faults MAX_PARAMETERS (c.frame.cells + length c.given) x ++ declared_faults c x
parameter_faults c (parameters.Reducer r) = monoid_faults c.names r ++ limit_faults MAX_PARAMETERS (c.frame.cells + length c.given) r.name ++ again_faults c.names r.name

abbrev pub parameters_faults : Context → List Parameter → List Misnaming
parameters_faults c [] = []
parameters_faults c (p ∷ ps) = parameter_faults c p ++ parameters_faults (with_parameter c p) ps

-- an array has at least 1 element and fits in the global cells that are left
abbrev pub global_faults : Known → GlobalVariable → List Misnaming
global_faults k (globals.Variable x i) = again_faults k.names x ++ unless (not (globals_full (length k.openings))) OverLimit x.at
global_faults k (globals.Array x n) = again_faults k.names x ++ unless (not (nat_eq (array_cells (length k.openings) n) 0)) OverLimit x.at

abbrev pub line_faults : Known → List GlobalVariable → List Misnaming
line_faults k [] = []
line_faults k (v ∷ vs) = global_faults k v ++ line_faults (behind_global k v) vs

abbrev pub item_faults : Known → Item → List Misnaming
item_faults k (Globals vs) = line_faults k vs
item_faults k (Item.Reducer r) = monoid_faults k.names r ++ again_faults k.names r.name ++ limit_faults MAX_REDUCERS k.reducers r.name
item_faults k (Function returns x ps body) =
    let c = in_function k returns x in
    again_faults k.names x ++ limit_faults MAX_FUNCTIONS k.functions x ++ parameters_faults c ps ++ row_faults (with_parameters c ps) body

abbrev pub items_faults : Known → List Item → List Misnaming
items_faults k [] = []
items_faults k (i ∷ rest) = item_faults k i ++ items_faults (behind_item k i) rest

-- there must be a main function; its absence is a fault only if there is no other
abbrev pub or_no_main : Option ℕ → ℕ → List Misnaming → List Misnaming
or_no_main None place [] = at NoMain place
or_no_main (Some n) place [] = []
or_no_main main place (f ∷ fs) = f ∷ fs

-- all faults of the tree's names
abbrev pub faults_of : Tree → List Misnaming
faults_of t = or_no_main (main_of t.text.items 0 (program t)) (length t.text.items) (items_faults (start t.text.items (program t)) (program t))

-- one of these, and none is before it
abbrev pub IsFirst : Misnaming → List Misnaming → Type 0
IsFirst f fs = Contains fs f × All (λ g. is_before g f ≡ false) fs

-- the first fault of the tree's names; running out of memory says nothing about the tree
abbrev pub IsNameFault : NameFault → Tree → Type 0
IsNameFault faults.Memory t = Unit {0}
IsNameFault (faults.At number place) t = IsFirst (record { number = number; place = place }) (faults_of t)
