-- The context at each place of a text: before and after the statements of a body, and of its
-- functions.
use Rattle.std.specs.Prelude.{ℕ, ◌+◌, nat_lt, Bool, false, if◌then◌else◌, List, [], ◌∷◌, ◌++◌, length, Option, Some, None, bytes_eq}
use Rattle.cilk_monoid.specs.declared.kind.MonoidKind.{MonoidKind}
use Rattle.cilk_monoid.specs.Kinds.{kind_named}
use Rattle.cilk_syntax.specs.declared.tree.Name.{Name}
use Rattle.cilk_syntax.specs.declared.tree.Parameter.{Parameter}
use Rattle.cilk_syntax.specs.declared.tree.Parameter.TheVariants as parameters
use Rattle.cilk_syntax.specs.declared.tree.Reducer.{Reducer}
use Rattle.cilk_syntax.specs.Trees as trees
use Rattle.cilk_syntax.specs.Trees.{Item, Globals, Function, bytes_of}
use Rattle.cilk_program.specs.declared.program.Body.TheVariants as bodies
use Rattle.cilk_names.specs.Names.{Scope, Names, monoid_at, kind_or_sum, declare, opened, with_function}
use Rattle.cilk_names.specs.declared.limits.TheConstants.{MAX_CELLS, MAX_REDUCERS}
use Rattle.cilk_names.specs.declared.table.Meaning.TheVariants as meanings
use Rattle.cilk_names.specs.declared.table.Home.TheVariants as homes
use Rattle.cilk_names.specs.declared.scene.Frame.{Frame}
use Rattle.cilk_names.specs.declared.signature.ParameterKind.{ParameterKind}
use Rattle.cilk_names.specs.declared.signature.ParameterKind.TheVariants as kinds
use Rattle.cilk_names.specs.declared.signature.Signature.{Signature}

-- the scope of a parallel loop's variable, which is known only in the loop's body
abbrev pub in_loop : Names → Name → Names
in_loop names x = declare (record (opened names) { level = names.level + 1 }) x (meanings.Turn (names.level + 1))

-- counts one more, but not past the limit
abbrev pub counted : ℕ → ℕ → ℕ
counted limit n = if nat_lt n limit then n + 1 else n

-- The context at a place of a body: names, the frame, the monoids of the function's reducer
-- parameters and of its own reducers so far, and the number of reducer declarations and of loops
-- before it in the text.
pub record Context : Type 0 where
  pub names : Names
  pub frame : Frame
  pub given : List MonoidKind
  pub own : List MonoidKind
  pub reducers : ℕ
  pub loops : ℕ

-- a scope in a body, where no reducer is declared
abbrev pub inside : Context → Context
inside c = record c { names = opened c.names; frame = record c.frame { heading = false } }

-- after a scope, names mean what they meant before it
abbrev pub behind_scope : Context → Context → Context
behind_scope c after = record after { names = c.names }

-- a statement that declares no reducer ends the function's reducer declarations
abbrev pub keeps_heading : trees.Statement → Bool → Bool
keeps_heading (trees.Statement.Reducer r) heading = heading
keeps_heading s heading = false

abbrev pub ahead : Context → trees.Statement → Context
ahead c s = record c { frame = record c.frame { heading = keeps_heading s c.frame.heading } }

-- a variable is in the frame's next cell
abbrev pub with_variable : Context → Name → Context
with_variable c x = record c {
  names = declare c.names x (meanings.Local c.names.level c.frame.cells);
  frame = record c.frame { cells = counted MAX_CELLS c.frame.cells };
}

abbrev pub with_reducer : Context → Reducer → Context
with_reducer c r = record c {
  names = declare c.names r.name (meanings.Reducer (homes.Own (length c.own)) (monoid_at c.names r));
  own = c.own ++ kind_or_sum (monoid_at c.names r) ∷ [];
  reducers = counted MAX_REDUCERS c.reducers;
}

abbrev pub behind_locals : Context → List trees.Local → Context
behind_locals c [] = c
behind_locals c (l ∷ ls) = behind_locals (with_variable c l.name) ls

abbrev pub behind_beginning : Context → Option trees.Beginning → Context
behind_beginning c None = c
behind_beginning c (Some (trees.Declares x e)) = with_variable c x
behind_beginning c (Some (trees.Assigns a)) = c

-- in the body of a parallel loop, whose frame has the loop's variable in cell 0
abbrev pub in_body : Context → Name → Context
in_body c x = record c {
  names = in_loop c.names x;
  frame = record c.frame { body = bodies.Loop c.loops; cells = 1; heading = false };
  loops = c.loops + 1;
}

-- after a parallel loop
abbrev pub behind_loop : Context → Context → Context
behind_loop c after = record after { names = c.names; frame = c.frame }

abbrev mutual
  -- after a statement; the statement under `if`, `else`, `while`, `for` and `cilk_for` is a scope
  pub behind : Context → trees.Statement → Context
  behind c trees.Empty = c
  behind c (trees.Block row) = behind_scope c (behind_row (inside c) row)
  behind c (trees.Declare ls) = behind_locals c ls
  behind c (trees.Statement.Reducer r) = with_reducer c r
  behind c (trees.Assign a) = c
  behind c (trees.Statement.Invoke how k) = c
  behind c (trees.AssignCall x how k) = c
  behind c trees.Sync = c
  behind c (trees.If e s) = behind_scope c (behind (inside c) s)
  behind c (trees.IfElse e s other) = behind_scope c (behind (inside (behind_scope c (behind (inside c) s))) other)
  behind c (trees.While e s) = behind_scope c (behind (inside c) s)
  behind c (trees.For b e a s) = behind_scope c (behind (inside (behind_beginning (inside c) b)) s)
  behind c (trees.ParallelFor b s) = behind_loop c (behind (inside (in_body c b.variable)) s)
  behind c (trees.Return place e) = c
  behind c (trees.Print e) = c
  behind c (trees.Update x e) = c
  behind c (trees.Statement.Set x e) = c

  pub behind_row : Context → trees.Statements → Context
  behind_row c trees.End = c
  behind_row c (trees.Then s row) = behind_row (behind (ahead c s) s) row

-- the kind of a parameter
abbrev pub kind_of : List ℕ → Parameter → ParameterKind
kind_of text (parameters.Variable x) = kinds.Word
kind_of text (parameters.Reducer r) = kinds.Reducer (kind_named (bytes_of text r.monoid))

abbrev pub kinds_of : List ℕ → List Parameter → List ParameterKind
kinds_of text [] = []
kinds_of text (p ∷ ps) = kind_of text p ∷ kinds_of text ps

-- the signatures of the functions of these items, in order
abbrev pub signatures_of : List ℕ → List Item → List Signature
signatures_of text [] = []
signatures_of text (Globals vs ∷ rest) = signatures_of text rest
signatures_of text (Item.Reducer r ∷ rest) = signatures_of text rest
signatures_of text (Function returns name ps body ∷ rest) = record { returns = returns; parameters = kinds_of text ps } ∷ signatures_of text rest

-- the functions of these items, numbered from n: known and not declared yet; of two with one name
-- the first
abbrev pub functions_known : List ℕ → ℕ → List Item → Scope
functions_known text n [] name = None
functions_known text n (Globals vs ∷ rest) name = functions_known text n rest name
functions_known text n (Item.Reducer r ∷ rest) name = functions_known text n rest name
functions_known text n (Function returns x ps body ∷ rest) name =
    if bytes_eq (bytes_of text x) name then Some (record { meaning = meanings.Function n; declared = false }) else functions_known text (n + 1) rest name

abbrev pub with_parameter : Context → Parameter → Context
with_parameter c (parameters.Variable x) = with_variable c x
with_parameter c (parameters.Reducer r) = record c {
  names = declare c.names r.name (meanings.Reducer (homes.Given (length c.given)) (monoid_at c.names r));
  given = c.given ++ kind_or_sum (monoid_at c.names r) ∷ [];
}

abbrev pub with_parameters : Context → List Parameter → Context
with_parameters c [] = c
with_parameters c (p ∷ ps) = with_parameters (with_parameter c p) ps

abbrev pub with_item : List ℕ → Scope → ℕ → Item → Scope
with_item text s n (Globals vs) = s
with_item text s n (Item.Reducer r) = s
with_item text s n (Function returns x ps body) = with_function s (bytes_of text x) n

-- the number of functions up to and including an item, with n before it
abbrev pub functions_behind : ℕ → Item → ℕ
functions_behind n (Globals vs) = n
functions_behind n (Item.Reducer r) = n
functions_behind n (Function returns x ps body) = n + 1
