-- Programs in which every name refers to something that exists.
use Rattle.std.specs.Prelude.{ℕ, zero, suc, ◌+◌, nat_eq, nat_lt, Bool, true, false, not, ◌&&◌, List, [], ◌∷◌, length, slice_get, Option, Some, None}
use Rattle.cilk_monoid.specs.declared.kind.MonoidKind.{MonoidKind}
use Rattle.cilk_monoid.specs.Kinds.{same_kind}
use Rattle.cilk_program.specs.declared.program.Body.{Body}
use Rattle.cilk_program.specs.declared.program.Body.TheVariants as bodies
use Rattle.cilk_program.specs.declared.syntax.Array.{Array}
use Rattle.cilk_program.specs.declared.syntax.Place.{Place}
use Rattle.cilk_program.specs.declared.syntax.Place.TheVariants as places
use Rattle.cilk_program.specs.declared.syntax.Reducer.{Reducer}
use Rattle.cilk_program.specs.declared.syntax.ReducerPlace.{ReducerPlace}
use Rattle.cilk_program.specs.declared.syntax.ReducerPlace.TheVariants as reducers
use Rattle.cilk_program.specs.Syntax.{Expression, Number, Variable, Element, Negate, Not, Binary, And, Or, Value, Input, InputCount, Target, ToVariable, ToElement, Invoke, Declaration, Zero, Opening, Invoking, Statement, Empty, Block, Declare, Assign, Change, Step, Invokes, Sync, If, IfElse, For, ParallelFor, Print, Update, Set, Return, Statements, Nothing, Then, Function, Loop, Source, function_at, main_of, loop_at}

-- the cells of a body's frame, the monoids of the reducers that it creates, and of those that it is
-- given
pub record Level : Type 0 where
  pub cells : ℕ
  pub own : List MonoidKind
  pub given : List MonoidKind

abbrev pub function_level : Function → Level
function_level f = record { cells = f.cells; own = f.reducers; given = f.given }

abbrev pub loop_level : Loop → Level
loop_level l = record { cells = l.cells; own = []; given = [] }

-- a body's level, then those of the bodies around it, at most n
abbrev pub levels : ℕ → Source → Body → List Level
levels zero p b = []
levels (suc n) p (bodies.Function k) = function_level (function_at p k) ∷ []
levels (suc n) p (bodies.Loop k) = let l = loop_at p k in loop_level l ∷ levels n p l.within

-- all levels of a body; a loop is contained in a function or in an earlier loop
abbrev pub levels_of : Source → Body → List Level
levels_of p b = levels (suc (length p.loops)) p b

abbrev pub at_most : ℕ → ℕ → Bool
at_most n k = not (nat_lt k n)

abbrev pub has_cell : Option Level → ℕ → Bool
has_cell None n = false
has_cell (Some l) n = nat_lt n l.cells

abbrev pub is_kind : Option MonoidKind → MonoidKind → Bool
is_kind None k = false
is_kind (Some j) k = same_kind j k

abbrev pub has_own : Option Level → ℕ → MonoidKind → Bool
has_own None n k = false
has_own (Some l) n k = is_kind (slice_get l.own n) k

abbrev pub has_given : Option Level → ℕ → MonoidKind → Bool
has_given None n k = false
has_given (Some l) n k = is_kind (slice_get l.given n) k

-- reducers have these monoids, in order
abbrev pub have_kinds : List Reducer → List MonoidKind → Bool
have_kinds [] [] = true
have_kinds [] (k ∷ ks) = false
have_kinds (r ∷ rs) [] = false
have_kinds (r ∷ rs) (k ∷ ks) = same_kind r.kind k && have_kinds rs ks

abbrev pub same_body : Body → Body → Bool
same_body (bodies.Function n) (bodies.Function k) = nat_eq n k
same_body (bodies.Function n) (bodies.Loop k) = false
same_body (bodies.Loop n) (bodies.Function k) = false
same_body (bodies.Loop n) (bodies.Loop k) = nat_eq n k

module _ (p : Source) (b : Body) where
  abbrev pub place_is_there : Place → Bool
  place_is_there (places.Global n) = nat_lt n (length p.openings)
  place_is_there (places.Local up n) = has_cell (slice_get (levels_of p b) up) n

  abbrev pub array_is_there : Array → Bool
  array_is_there a = at_most (a.first + a.length) (length p.openings)

  abbrev pub reducer_is_there : ReducerPlace → MonoidKind → Bool
  reducer_is_there (reducers.Global n) k = is_kind (slice_get p.reducers n) k
  reducer_is_there (reducers.Own up n) k = has_own (slice_get (levels_of p b) up) n k
  reducer_is_there (reducers.Given up n) k = has_given (slice_get (levels_of p b) up) n k

  -- everything that an expression names exists
  abbrev pub expression_is_named : Expression → Bool
  expression_is_named (Number n) = true
  expression_is_named (Variable x) = place_is_there x
  expression_is_named (Element a e) = array_is_there a && expression_is_named e
  expression_is_named (Negate e) = expression_is_named e
  expression_is_named (Not e) = expression_is_named e
  expression_is_named (Binary op e e') = expression_is_named e && expression_is_named e'
  expression_is_named (And e e') = expression_is_named e && expression_is_named e'
  expression_is_named (Or e e') = expression_is_named e && expression_is_named e'
  expression_is_named (Value r) = reducer_is_there r.place r.kind
  expression_is_named (Input e) = expression_is_named e
  expression_is_named InputCount = true

  abbrev pub all_are_named : List Expression → Bool
  all_are_named [] = true
  all_are_named (e ∷ es) = expression_is_named e && all_are_named es

  abbrev pub option_is_named : Option Expression → Bool
  option_is_named None = true
  option_is_named (Some e) = expression_is_named e

  abbrev pub target_is_named : Target → Bool
  target_is_named (ToVariable x) = place_is_there x
  target_is_named (ToElement a e) = array_is_there a && expression_is_named e

  abbrev pub result_is_there : Option Place → Bool
  result_is_there None = true
  result_is_there (Some x) = place_is_there x

  abbrev pub reducers_are_there : List Reducer → Bool
  reducers_are_there [] = true
  reducers_are_there (r ∷ rs) = reducer_is_there r.place r.kind && reducers_are_there rs

  -- the function exists, and gets the arguments that it takes
  abbrev pub invoke_is_named : Invoke → Bool
  invoke_is_named i =
      let f = function_at p i.function in
      nat_lt i.function (length p.functions) && nat_eq (length i.arguments) f.words && have_kinds i.reducers f.given
      && all_are_named i.arguments && reducers_are_there i.reducers && result_is_there i.result

  abbrev pub declaration_is_named : Declaration → Bool
  declaration_is_named (Zero n) = place_is_there (places.Local 0 n)
  declaration_is_named (Opening n e) = place_is_there (places.Local 0 n) && expression_is_named e
  declaration_is_named (Invoking i) = invoke_is_named i

  abbrev pub declarations_are_named : List Declaration → Bool
  declarations_are_named [] = true
  declarations_are_named (d ∷ ds) = declaration_is_named d && declarations_are_named ds

  -- the loop exists, and is directly in this body
  abbrev pub loop_is_there : ℕ → Bool
  loop_is_there n = let l = loop_at p n in nat_lt n (length p.loops) && same_body l.within b

  abbrev mutual
    pub statement_is_named : Statement → Bool
    statement_is_named Empty = true
    statement_is_named (Block row) = row_is_named row
    statement_is_named (Declare ds) = declarations_are_named ds
    statement_is_named (Assign t e) = target_is_named t && expression_is_named e
    statement_is_named (Change t op e) = target_is_named t && expression_is_named e
    statement_is_named (Step t n) = target_is_named t
    statement_is_named (Invokes i) = invoke_is_named i
    statement_is_named Sync = true
    statement_is_named (If e s) = expression_is_named e && statement_is_named s
    statement_is_named (IfElse e s other) = expression_is_named e && statement_is_named s && statement_is_named other
    statement_is_named (For row test step s) = row_is_named row && option_is_named test && row_is_named step && statement_is_named s
    statement_is_named (ParallelFor e e' n) = expression_is_named e && expression_is_named e' && loop_is_there n
    statement_is_named (Print e) = expression_is_named e
    statement_is_named (Update r e) = reducer_is_there r.place r.kind && expression_is_named e
    statement_is_named (Set r e) = reducer_is_there r.place r.kind && expression_is_named e
    statement_is_named (Return e) = option_is_named e

    pub row_is_named : Statements → Bool
    row_is_named Nothing = true
    row_is_named (Then s row) = statement_is_named s && row_is_named row

-- the body around a loop is a function that exists or an earlier loop
abbrev pub stands_in : Source → ℕ → Body → Bool
stands_in p n (bodies.Function k) = nat_lt k (length p.functions)
stands_in p n (bodies.Loop k) = nat_lt k n

abbrev pub function_is_named : Source → ℕ → Function → Bool
function_is_named p k f = at_most f.words f.cells && at_most f.cells 256 && at_most (f.words + length f.given) 16 && at_most (length f.reducers) 64 && row_is_named p (bodies.Function k) f.body

abbrev pub loop_is_named : Source → ℕ → Loop → Bool
loop_is_named p n l = nat_lt 0 l.cells && at_most l.cells 256 && stands_in p n l.within && row_is_named p (bodies.Loop n) l.body

-- the functions of a list, numbered from k
abbrev pub functions_are_named : Source → ℕ → List Function → Bool
functions_are_named p k [] = true
functions_are_named p k (f ∷ fs) = function_is_named p k f && functions_are_named p (suc k) fs

abbrev pub loops_are_named : Source → ℕ → List Loop → Bool
loops_are_named p n [] = true
loops_are_named p n (l ∷ ls) = loop_is_named p n l && loops_are_named p (suc n) ls

-- main has no parameters
abbrev pub main_is_plain : Function → Bool
main_is_plain f = nat_eq f.words 0 && nat_eq (length f.given) 0

-- all names refer to something, and the program is within its limits
abbrev pub is_well_named : Source → Bool
is_well_named p =
    at_most (length p.openings) 1000000 && at_most (length p.reducers) 64 && nat_lt p.main (length p.functions) && main_is_plain (main_of p)
    && functions_are_named p 0 p.functions && loops_are_named p 0 p.loops
