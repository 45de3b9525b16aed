-- The declarations of a text's items: global variables, global reducers and functions.
use Rattle.std.specs.Prelude.{ℕ, zero, suc, ◌+◌, nat_lt, ℤ, pos, negsuc, Bool, true, false, not, if◌then◌else◌, List, [], ◌∷◌, ◌++◌, length, Option, Some, None, bytes_eq, codes}
use Rattle.cilk_syntax.specs.declared.tree.Name.{Name}
use Rattle.cilk_syntax.specs.declared.tree.GlobalVariable.{GlobalVariable}
use Rattle.cilk_syntax.specs.declared.tree.GlobalVariable.TheVariants as globals
use Rattle.cilk_syntax.specs.declared.tree.Parameter.{Parameter}
use Rattle.cilk_syntax.specs.declared.tree.ReturnType.{ReturnType}
use Rattle.cilk_syntax.specs.declared.tree.ReturnType.TheVariants.{Int, Void}
use Rattle.cilk_syntax.specs.Trees.{Item, Globals, Function, bytes_of, opening_value}
use Rattle.cilk_program.specs.declared.program.Body.TheVariants as bodies
use Rattle.cilk_program.specs.declared.program.GlobalReducer.{GlobalReducer}
use Rattle.cilk_names.specs.declared.limits.TheConstants.{MAX_GLOBALS, MAX_REDUCERS}
use Rattle.cilk_names.specs.declared.table.Meaning.TheVariants as meanings
use Rattle.cilk_names.specs.declared.table.Home.TheVariants as homes
use Rattle.cilk_names.specs.Names.{Names, opened, declare, monoid_at, kind_or_sum}
use Rattle.cilk_names.specs.Contexts.{Context, counted, behind_row, with_parameters, signatures_of, functions_known, functions_behind}

-- The context between items: names, the opening values of the global cells and the global reducers
-- so far, and the number of functions, reducer declarations and loops so far.
pub record Known : Type 0 where
  pub names : Names
  pub openings : List ℤ
  pub shared : List GlobalReducer
  pub functions : ℕ
  pub reducers : ℕ
  pub loops : ℕ

-- before the first item: the functions of the text are known
abbrev pub start : List ℕ → List Item → Known
start text items = record {
  names = record { text = text; signatures = signatures_of text items; inner = functions_known text 0 items; outer = []; level = 0 };
  openings = [];
  shared = [];
  functions = 0;
  reducers = 0;
  loops = 0;
}

-- there is no room for another cell
abbrev pub globals_full : ℕ → Bool
globals_full n = not (nat_lt n MAX_GLOBALS)

-- the number of cells for an array after n cells: 0 if the length isn't positive or there is no
-- room
abbrev pub array_cells : ℕ → ℤ → ℕ
array_cells n (pos k) = if nat_lt MAX_GLOBALS (n + k) then 0 else k
array_cells n (negsuc k) = 0

abbrev pub zeros : ℕ → List ℤ
zeros zero = []
zeros (suc n) = pos 0 ∷ zeros n

-- after a global variable or array, which is in the next cells
abbrev pub behind_global : Known → GlobalVariable → Known
behind_global k (globals.Variable x i) = record k {
  names = declare k.names x (meanings.Global (length k.openings));
  openings = k.openings ++ (if globals_full (length k.openings) then [] else opening_value i ∷ []);
}
behind_global k (globals.Array x n) = record k {
  names = declare k.names x (meanings.Array (record { first = length k.openings; length = array_cells (length k.openings) n }));
  openings = k.openings ++ zeros (array_cells (length k.openings) n);
}

abbrev pub behind_line : Known → List GlobalVariable → Known
behind_line k [] = k
behind_line k (v ∷ vs) = behind_line (behind_global k v) vs

-- in the body of the next function, whose parameters are in its scope
abbrev pub in_function : Known → ReturnType → Name → Context
in_function k returns x = record {
  names = opened (declare k.names x (meanings.Function k.functions));
  frame = record { body = bodies.Function k.functions; returns = returns; cells = 0; heading = true };
  given = [];
  own = [];
  reducers = k.reducers;
  loops = k.loops;
}

abbrev pub behind_function : Known → Name → Context → Known
behind_function k x after = record k {
  names = declare k.names x (meanings.Function k.functions);
  functions = k.functions + 1;
  reducers = after.reducers;
  loops = after.loops;
}

abbrev pub behind_item : Known → Item → Known
behind_item k (Globals vs) = behind_line k vs
behind_item k (Item.Reducer r) = record k {
  names = declare k.names r.name (meanings.Reducer (homes.Global (length k.shared)) (monoid_at k.names r));
  shared = k.shared ++ record { name = bytes_of k.names.text r.name; kind = kind_or_sum (monoid_at k.names r) } ∷ [];
  reducers = counted MAX_REDUCERS k.reducers;
}
behind_item k (Function returns x ps body) = behind_function k x (behind_row (with_parameters (in_function k returns x) ps) body)

abbrev pub behind_items : Known → List Item → Known
behind_items k [] = k
behind_items k (i ∷ rest) = behind_items (behind_item k i) rest

-- the function is the main function
abbrev pub is_main : List ℕ → ReturnType → Name → List Parameter → Bool
is_main text Int x [] = bytes_eq (bytes_of text x) (codes "main")
is_main text Int x (p ∷ ps) = false
is_main text Void x ps = false

abbrev pub is_main_item : List ℕ → Item → Bool
is_main_item text (Globals vs) = false
is_main_item text (Item.Reducer r) = false
is_main_item text (Function returns x ps body) = is_main text returns x ps

-- the number of the first main function among these items, with n functions before them
abbrev pub main_of : List ℕ → ℕ → List Item → Option ℕ
main_of text n [] = None
main_of text n (i ∷ rest) = if is_main_item text i then Some n else main_of text (functions_behind n i) rest
