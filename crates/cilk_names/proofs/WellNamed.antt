-- The program of a tree without faults is well named.
use Rattle.std.proofs.Common.{◌≡◌, ℕ, zero, suc, ◌+◌, ◌-◌, ◌<◌, ◌≤◌, ℤ, pos, negsuc, nat_lt, nat_eq, Bool, true, false, ◌&&◌, not, if◌then◌else◌, IsTrue, List, [], ◌∷◌, ◌++◌, length, drop, map, slice_get, Option, Some, None, unwrap_or, bytes_eq, refl, sym, ap, ◌∙◌, subst, append_assoc, length-append, arith}
use Rattle.std.specs.Option.{option_or}
use Rattle.std.proofs.lemmas.List.{append-nil}
use Rattle.std.proofs.lemmas.Bool.{ltb-true, ltb-false, lt-ltb, eq-eqb, and_from}
use Rattle.cilk_monoid.specs.declared.kind.MonoidKind.{MonoidKind}
use Rattle.cilk_syntax.specs.declared.tree.Name.{Name}
use Rattle.cilk_syntax.specs.declared.tree.GlobalVariable.{GlobalVariable}
use Rattle.cilk_syntax.specs.declared.tree.GlobalVariable.TheVariants as globals
use Rattle.cilk_syntax.specs.declared.tree.Parameter.{Parameter}
use Rattle.cilk_syntax.specs.declared.tree.Parameter.TheVariants as parameters
use Rattle.cilk_syntax.specs.declared.tree.Reducer as parsed
use Rattle.cilk_syntax.specs.declared.tree.ReturnType.{ReturnType}
use Rattle.cilk_syntax.specs.declared.tree.ReturnType.TheVariants.{Int, Void}
use Rattle.cilk_syntax.specs.declared.tree.Tree.{Tree}
use Rattle.cilk_syntax.specs.Trees as trees
use Rattle.cilk_syntax.specs.Trees.{Item, program, opening_value}
use Rattle.cilk_program.specs.declared.program.Body.TheVariants as bodies
use Rattle.cilk_program.specs.declared.program.GlobalReducer.{GlobalReducer}
use Rattle.cilk_program.specs.Syntax as syntax
use Rattle.cilk_program.specs.Syntax.{Function, Loop, Source, Statements, idle, function_at}
use Rattle.cilk_program.specs.WellNamed.{Level, function_level, levels, at_most, has_cell, is_kind, has_given, row_is_named, stands_in, function_is_named, functions_are_named, loops_are_named, main_is_plain, is_well_named}
use Rattle.cilk_names.specs.declared.limits.TheConstants.{MAX_CELLS, MAX_GLOBALS, MAX_PARAMETERS, MAX_REDUCERS}
use Rattle.cilk_names.specs.declared.kind.NameErrorKind.TheVariants.{OverLimit}
use Rattle.cilk_names.specs.declared.table.Binding.{Binding}
use Rattle.cilk_names.specs.declared.table.Meaning.{Meaning}
use Rattle.cilk_names.specs.declared.table.Meaning.TheVariants as meanings
use Rattle.cilk_names.specs.declared.table.Home.TheVariants as homes
use Rattle.cilk_names.specs.declared.signature.Signature.{Signature}
use Rattle.cilk_names.specs.Names.{Names, declare, monoid_at, kind_or_sum}
use Rattle.cilk_names.specs.Contexts.{Context, inside, behind_scope, ahead, with_variable, with_parameter, with_parameters, behind_locals, behind_beginning, in_body, behind, behind_row, kinds_of, signatures_of, functions_known}
use Rattle.cilk_names.specs.Globals.{Known, start, globals_full, array_cells, zeros, behind_global, behind_line, in_function, behind_item, behind_items, is_main, main_of}
use Rattle.cilk_names.specs.Sights.{plain}
use Rattle.cilk_names.specs.Faults.{again_faults, monoid_faults, unless}
use Rattle.cilk_names.specs.Misnamings.{limit_faults, declared_faults, parameter_faults, parameters_faults, global_faults, line_faults, item_faults, items_faults, faults_of}
use Rattle.cilk_names.specs.Pass.{loops_of, row_loops, items_loops}
use Rattle.cilk_names.specs.Resolution.{ResolvesRow, ResolvesItems, Resolves}
use Rattle.cilk_names.proofs.Rights.{both_nil, unless_right}
use Rattle.cilk_names.proofs.Grows.{Grows, counted_more, limit_right, grows_row}
use Rattle.cilk_monoid.proofs.SameKinds.{kind_itself}
use Rattle.cilk_names.proofs.Fits.{words_in, given_in, MeaningFits, NamesFit, SignaturesFit, names_declare, names_opened}
use Rattle.cilk_names.proofs.Bodies.{get_drop, drop_more, get_last, at_most_from, loops_named_append, Stands, Ends, RowNamed, row_named}
use Rattle.cilk_names.proofs.Tables.{map_append}
use Rattle.cilk_names.proofs.Verdicts.{function_row_right, tree_parts, program_resolves, resolves_only}
use Rattle.cilk_names.proofs.Made.{program_of}

-- the parameters of a function
record Given (c d : Context) (ps : List Parameter) : Type 0 where
  body : d.frame.body ≡ c.frame.body
  level : d.names.level ≡ c.names.level
  text : d.names.text ≡ c.names.text
  signatures : d.names.signatures ≡ c.names.signatures
  cells : d.frame.cells ≡ c.frame.cells + words_in (kinds_of c.names.text ps)
  given : d.given ≡ c.given ++ given_in (kinds_of c.names.text ps)
  room : c.frame.cells + length c.given ≤ 16 → d.frame.cells + length d.given ≤ 16
  own : d.own ≡ c.own
  reducers : d.reducers ≡ c.reducers
  loops : d.loops ≡ c.loops

given_parameters : (c : Context) (ps : List Parameter) → parameters_faults c ps ≡ [] → Given c (with_parameters c ps) ps
given_parameters c [] h = record {
  body = refl;
  level = refl;
  text = refl;
  signatures = refl;
  cells = omega arith;
  given = sym (append-nil c.given);
  room = λ r. r;
  own = refl;
  reducers = refl;
  loops = refl;
}
given_parameters c (parameters.Variable x ∷ ps) h =
    let c' = with_variable c x in
    let q = both_nil (parameter_faults c (parameters.Variable x)) (parameters_faults c' ps) h in
    let r = both_nil (limit_faults MAX_PARAMETERS (c.frame.cells + length c.given) x) (declared_faults c x) q.0 in
    let s = both_nil (again_faults c.names x) (limit_faults MAX_CELLS c.frame.cells x) r.1 in
    let few : c.frame.cells + length c.given < 16 = limit_right MAX_PARAMETERS (c.frame.cells + length c.given) x r.0 in
    let more : c'.frame.cells ≡ c.frame.cells + 1 = counted_more MAX_CELLS c.frame.cells (limit_right MAX_CELLS c.frame.cells x s.1) in
    let g : Given c' (with_parameters c' ps) ps = given_parameters c' ps q.1 in
    record {
      body = g.body;
      level = g.level;
      text = g.text;
      signatures = g.signatures;
      cells = let y = g.cells in omega arith;
      given = g.given;
      room = λ _. g.room (omega arith);
      own = g.own;
      reducers = g.reducers;
      loops = g.loops;
    }
given_parameters c (parameters.Reducer x ∷ ps) h =
    let c' = with_parameter c (parameters.Reducer x) in
    let q = both_nil (parameter_faults c (parameters.Reducer x)) (parameters_faults c' ps) h in
    let r = both_nil (monoid_faults c.names x ++ limit_faults MAX_PARAMETERS (c.frame.cells + length c.given) x.name) (again_faults c.names x.name) q.0 in
    let s = both_nil (monoid_faults c.names x) (limit_faults MAX_PARAMETERS (c.frame.cells + length c.given) x.name) r.0 in
    let few : c.frame.cells + length c.given < 16 = limit_right MAX_PARAMETERS (c.frame.cells + length c.given) x.name s.1 in
    let kind : MonoidKind = kind_or_sum (monoid_at c.names x) in
    let one : length c'.given ≡ length c.given + 1 = length-append c.given (kind ∷ []) in
    let g : Given c' (with_parameters c' ps) ps = given_parameters c' ps q.1 in
    record {
      body = g.body;
      level = g.level;
      text = g.text;
      signatures = g.signatures;
      cells = g.cells;
      given = g.given ∙ append_assoc c.given (kind ∷ []) (given_in (kinds_of c.names.text ps));
      room = λ _. g.room (omega arith);
      own = g.own;
      reducers = g.reducers;
      loops = g.loops;
    }

module _ (p : Source) where
  -- the names of parameters
  parameters_fit : (ls : List Level) (bottom : Level) (c : Context) (ps : List Parameter) (rest : List MonoidKind) → NamesFit p ls c.names → parameters_faults c ps ≡ []
      → slice_get ls 0 ≡ Some bottom → c.names.level ≡ 0 → (let d = with_parameters c ps in d.frame.cells ≤ bottom.cells) → (let d = with_parameters c ps in bottom.given ≡ d.given ++ rest)
      → (let d = with_parameters c ps in NamesFit p ls d.names)
  parameters_fit ls bottom c [] rest h f at zero_level e g = h
  parameters_fit ls bottom c (parameters.Variable x ∷ ps) rest h f at zero_level e g =
      let c' = with_variable c x in
      let q = both_nil (parameter_faults c (parameters.Variable x)) (parameters_faults c' ps) f in
      let r = both_nil (limit_faults MAX_PARAMETERS (c.frame.cells + length c.given) x) (declared_faults c x) q.0 in
      let s = both_nil (again_faults c.names x) (limit_faults MAX_CELLS c.frame.cells x) r.1 in
      let more : c'.frame.cells ≡ c.frame.cells + 1 = counted_more MAX_CELLS c.frame.cells (limit_right MAX_CELLS c.frame.cells x s.1) in
      let room : c.frame.cells < bottom.cells = let y = (given_parameters c' ps q.1).cells in omega arith in
      let none : 0 ≡ c.names.level - c.names.level = omega arith in
      let cell : has_cell (slice_get ls (c.names.level - c.names.level)) c.frame.cells ≡ true =
      ap (λ i. has_cell (slice_get ls i) c.frame.cells) (sym none) ∙ ap (λ o. has_cell o c.frame.cells) at ∙ lt-ltb c.frame.cells bottom.cells room in
      parameters_fit ls bottom c' ps rest (names_declare p ls c.names x (meanings.Local c.names.level c.frame.cells) h (omega arith, cell)) q.1 at zero_level e g
  parameters_fit ls bottom c (parameters.Reducer x ∷ ps) rest h f at zero_level e g =
      let c' = with_parameter c (parameters.Reducer x) in
      let q = both_nil (parameter_faults c (parameters.Reducer x)) (parameters_faults c' ps) f in
      let kind : MonoidKind = kind_or_sum (monoid_at c.names x) in
      let more : List MonoidKind = given_in (kinds_of c.names.text ps) in
      let is : bottom.given ≡ c.given ++ (kind ∷ (more ++ rest)) =
      g ∙ ap (λ xs. xs ++ rest) ((given_parameters c' ps q.1).given ∙ append_assoc c.given (kind ∷ []) more) ∙ append_assoc c.given (kind ∷ more) rest in
      let here : slice_get bottom.given (length c.given) ≡ Some kind = ap (λ xs. slice_get xs (length c.given)) is ∙ get_last c.given (more ++ rest) kind in
      let there : has_given (slice_get ls c.names.level) (length c.given) kind ≡ true =
      ap (λ i. has_given (slice_get ls i) (length c.given) kind) zero_level ∙ ap (λ o. has_given o (length c.given) kind) at ∙ ap (λ o. is_kind o kind) here ∙ kind_itself kind in
      parameters_fit ls bottom c' ps rest (names_declare p ls c.names x.name (meanings.Reducer (homes.Given (length c.given)) (monoid_at c.names x)) h there) q.1 at zero_level e g

  -- a function sees the meanings of names between items
  seen_inside : (l : Level) (level : ℕ) (m : Meaning) → MeaningFits p [] level m → MeaningFits p (l ∷ []) level m
  seen_inside l level (meanings.Global n) h = h
  seen_inside l level (meanings.Array a) h = h
  seen_inside l level (meanings.Local k n) h = absurd (let e = h.1 in cc)
  seen_inside l level (meanings.Turn k) h = absurd (let e = h.1 in cc)
  seen_inside l level (meanings.Reducer (homes.Global n) k) h = h
  seen_inside l level (meanings.Reducer (homes.Own n) k) h = absurd cc
  seen_inside l level (meanings.Reducer (homes.Given n) k) h = absurd cc
  seen_inside l level (meanings.Function n) h = h

  names_inside : (l : Level) (names : Names) → NamesFit p [] names → NamesFit p (l ∷ []) names
  names_inside l names h = record { fits = λ q e f. seen_inside l names.level e.meaning (h.fits q e f) }

  -- a place between items
  record Between (k : Known) : Type 0 where
    names : NamesFit p [] k.names
    signatures : SignaturesFit p k.names.signatures
    level : k.names.level ≡ 0
    most : length k.openings ≤ 1000000
    within : k.reducers ≤ 64
    count : length k.shared ≤ k.reducers

  -- the program has at least the cells, reducers and loops so far
  record Before (k : Known) : Type 0 where
    cells : List ℤ
    openings : p.openings ≡ k.openings ++ cells
    kinds : List MonoidKind
    shared : p.reducers ≡ map (λ (r : GlobalReducer). r.kind) k.shared ++ kinds
    loops : k.loops ≤ length p.loops

  length_zeros : (n : ℕ) → length (zeros n) ≡ n
  length_zeros zero = refl
  length_zeros (suc n) = ap suc (length_zeros n)

  -- one more declaration between items
  between_declare : (k d : Known) (x : Name) (m : Meaning) → Between k → d.names ≡ declare k.names x m → MeaningFits p [] k.names.level m
      → length d.openings ≤ 1000000 → d.reducers ≤ 64 → length d.shared ≤ d.reducers → Between d
  between_declare k d x m h is fit most within count = record {
    names = subst (λ (n : Names). NamesFit p [] n) (sym is) (names_declare p [] k.names x m h.names fit);
    signatures = subst (λ (n : Names). SignaturesFit p n.signatures) (sym is) h.signatures;
    level = ap (λ (n : Names). n.level) is ∙ h.level;
    most = most;
    within = within;
    count = count;
  }

  -- a variable within the limit
  room_right : (n : ℕ) (x : Name) → unless (not (globals_full n)) OverLimit x.at ≡ [] → n < 1000000
  room_right n x h = ltb-true n MAX_GLOBALS (double (nat_lt n MAX_GLOBALS) (unless_right (not (globals_full n)) OverLimit x.at h))
    where
      double : (b : Bool) → not (not b) ≡ true → b ≡ true
      double true h = refl
      double false h = absurd cc

  cells_most : (n : ℕ) (z : ℤ) → n ≤ 1000000 → n + array_cells n z ≤ 1000000
  cells_most n (pos k) h = most_cases (nat_lt MAX_GLOBALS (n + k)) refl
    where
      most_cases : (b : Bool) → nat_lt MAX_GLOBALS (n + k) ≡ b → n + (if b then 0 else k) ≤ 1000000
      most_cases true e = omega arith
      most_cases false e = let le : n + k ≤ 1000000 = ltb-false MAX_GLOBALS (n + k) e in le
  cells_most n (negsuc k) h = omega arith

  global_between : (k : Known) (v : GlobalVariable) → Between k → global_faults k v ≡ [] → Before (behind_global k v) → Between (behind_global k v)
  global_between k (globals.Variable x i) h f b =
      let n = length k.openings in
      let q = both_nil (again_faults k.names x) (unless (not (globals_full n)) OverLimit x.at) f in
      let lt : n < 1000000 = room_right n x q.1 in
      let full : globals_full n ≡ false = ap not (lt-ltb n MAX_GLOBALS lt) in
      let one : length (behind_global k (globals.Variable x i)).openings ≡ n + 1 =
      length-append k.openings (if globals_full n then [] else opening_value i ∷ []) ∙ ap (λ c. n + length (if c then [] else opening_value i ∷ [])) full in
      let all : length p.openings ≡ n + 1 + length b.cells = ap length b.openings ∙ length-append (behind_global k (globals.Variable x i)).openings b.cells ∙ ap (λ m. m + length b.cells) one in
      between_declare k (behind_global k (globals.Variable x i)) x (meanings.Global n) h refl (lt-ltb n (length p.openings) (omega arith)) (omega arith) h.within h.count
  global_between k (globals.Array x z) h f b =
      let n = length k.openings in
      let m = array_cells n z in
      let more : length (behind_global k (globals.Array x z)).openings ≡ n + m = length-append k.openings (zeros m) ∙ ap (λ j. n + j) (length_zeros m) in
      let all : length p.openings ≡ n + m + length b.cells = ap length b.openings ∙ length-append (behind_global k (globals.Array x z)).openings b.cells ∙ ap (λ j. j + length b.cells) more in
      between_declare k (behind_global k (globals.Array x z)) x (meanings.Array (record { first = n; length = m })) h refl (at_most_from (n + m) (length p.openings) (omega arith))
      (let most = cells_most n z h.most in omega arith) h.within h.count

  -- the same before a step, from after it
  before_global : (k : Known) (v : GlobalVariable) → Before (behind_global k v) → Before k
  before_global k (globals.Variable x i) b = record {
    cells = (if globals_full (length k.openings) then [] else opening_value i ∷ []) ++ b.cells;
    openings = b.openings ∙ append_assoc k.openings (if globals_full (length k.openings) then [] else opening_value i ∷ []) b.cells;
    kinds = b.kinds;
    shared = b.shared;
    loops = b.loops;
  }
  before_global k (globals.Array x z) b = record {
    cells = zeros (array_cells (length k.openings) z) ++ b.cells;
    openings = b.openings ∙ append_assoc k.openings (zeros (array_cells (length k.openings) z)) b.cells;
    kinds = b.kinds;
    shared = b.shared;
    loops = b.loops;
  }

  before_line : (k : Known) (vs : List GlobalVariable) → Before (behind_line k vs) → Before k
  before_line k [] b = b
  before_line k (v ∷ vs) b = before_global k v (before_line (behind_global k v) vs b)

  line_between : (k : Known) (vs : List GlobalVariable) → Between k → line_faults k vs ≡ [] → Before (behind_line k vs) → Between (behind_line k vs)
  line_between k [] h f b = h
  line_between k (v ∷ vs) h f b =
      let q = both_nil (global_faults k v) (line_faults (behind_global k v) vs) f in
      line_between (behind_global k v) vs (global_between k v h q.0 (before_line (behind_global k v) vs b)) q.1 b

  reducer_between : (k : Known) (r : parsed.Reducer) → Between k → item_faults k (trees.Item.Reducer r) ≡ [] → Before (behind_item k (trees.Item.Reducer r)) → Between (behind_item k (trees.Item.Reducer r))
  reducer_between k r h f b =
      let d = behind_item k (trees.Item.Reducer r) in
      let n = length k.shared in
      let kind : MonoidKind = kind_or_sum (monoid_at k.names r) in
      let made : GlobalReducer = record { name = trees.bytes_of k.names.text r.name; kind = kind } in
      let lt : k.reducers < 64 = limit_right MAX_REDUCERS k.reducers r.name (both_nil (monoid_faults k.names r ++ again_faults k.names r.name) (limit_faults MAX_REDUCERS k.reducers r.name) f).1 in
      let more : d.reducers ≡ k.reducers + 1 = counted_more MAX_REDUCERS k.reducers lt in
      let one : length d.shared ≡ n + 1 = length-append k.shared (made ∷ []) in
      let is : p.reducers ≡ map (λ (g : GlobalReducer). g.kind) k.shared ++ (kind ∷ b.kinds) =
      b.shared ∙ ap (λ xs. xs ++ b.kinds) (map_append (λ (g : GlobalReducer). g.kind) k.shared (made ∷ []))
      ∙ append_assoc (map (λ (g : GlobalReducer). g.kind) k.shared) (kind ∷ []) b.kinds in
      let at : slice_get p.reducers n ≡ Some kind =
      ap (λ xs. slice_get xs n) is ∙ ap (λ i. slice_get (map (λ (g : GlobalReducer). g.kind) k.shared ++ (kind ∷ b.kinds)) i) (sym (length_kinds k.shared))
      ∙ get_last (map (λ (g : GlobalReducer). g.kind) k.shared) b.kinds kind in
      let there : is_kind (slice_get p.reducers n) kind ≡ true = ap (λ o. is_kind o kind) at ∙ kind_itself kind in
      between_declare k d r.name (meanings.Reducer (homes.Global n) (monoid_at k.names r)) h refl there h.most (let y = h.within in omega arith) (let y = h.count in omega arith)
    where
      length_kinds : (rs : List GlobalReducer) → length (map (λ (g : GlobalReducer). g.kind) rs) ≡ length rs
      length_kinds [] = refl
      length_kinds (g ∷ rs) = ap suc (length_kinds rs)

  before_reducer : (k : Known) (r : parsed.Reducer) → Before (behind_item k (trees.Item.Reducer r)) → Before k
  before_reducer k r b =
      let kind : MonoidKind = kind_or_sum (monoid_at k.names r) in
      let made : GlobalReducer = record { name = trees.bytes_of k.names.text r.name; kind = kind } in
      record {
        cells = b.cells;
        openings = b.openings;
        kinds = kind ∷ b.kinds;
        shared = b.shared ∙ ap (λ xs. xs ++ b.kinds) (map_append (λ (g : GlobalReducer). g.kind) k.shared (made ∷ []))
            ∙ append_assoc (map (λ (g : GlobalReducer). g.kind) k.shared) (kind ∷ []) b.kinds;
        loops = b.loops;
      }

  -- a function: the names in its body refer to things that exist, and it is within the limits
  record FunctionNamed (k : Known) (d : Known) (f : Function) (made : List Loop) : Type 0 where
    function : IsTrue (function_is_named p k.functions f)
    loops : IsTrue (loops_are_named p k.loops made)
    count : d.loops ≡ k.loops + length made
    between : Between d
    before : k.loops ≤ d.loops

  function_named : (k : Known) (returns : ReturnType) (x : Name) (ps : List Parameter) (body : trees.Statements) (row : Statements) (f : Function) (made rest : List Loop)
      → Between k → item_faults k (trees.Function returns x ps body) ≡ [] → slice_get p.functions k.functions ≡ Some f → k.functions < length p.functions
      → ResolvesRow (with_parameters (in_function k returns x) ps) body row made
      → (let c = with_parameters (in_function k returns x) ps in let after = behind_row c body in
      f ≡ record { words = c.frame.cells; given = after.given; cells = after.frame.cells; reducers = after.own; body = row })
      → (let after = behind_item k (trees.Function returns x ps body) in after.loops ≤ length p.loops) → drop k.loops p.loops ≡ made ++ rest
      → FunctionNamed k (behind_item k (trees.Function returns x ps body)) f made
  function_named k returns x ps body row f made rest h faults at there resolves is low split =
      let d = behind_item k (trees.Function returns x ps body) in
      let c0 = in_function k returns x in
      let c = with_parameters c0 ps in
      let after = behind_row c body in
      let q = function_row_right k returns x ps body faults in
      let g : Given c0 c ps = given_parameters c0 ps q.0 in
      let up : Grows c after = grows_row c body q.1 in
      let own_function : Function = record { words = c.frame.cells; given = after.given; cells = after.frame.cells; reducers = after.own; body = row } in
      let bottom : Level = function_level own_function in
      let ls = bottom ∷ [] in
      let function_is : function_at p k.functions ≡ own_function = ap (λ o. unwrap_or o idle) at ∙ is in
      let names0 : NamesFit p [] c0.names = names_opened p [] (declare k.names x (meanings.Function k.functions)) (names_declare p [] k.names x (meanings.Function k.functions) h.names there) in
      let given_is : bottom.given ≡ c.given ++ [] = up.given ∙ sym (append-nil c.given) in
      let names1 : NamesFit p ls c.names = parameters_fit ls bottom c0 ps [] (names_inside bottom c0.names names0) q.0 refl h.level up.cells given_is in
      let body_is : c.frame.body ≡ bodies.Function k.functions = g.body in
      let levels_are : (i : ℕ) → 1 ≤ i → levels i p c.frame.body ≡ ls = λ i le. ap (levels i p) body_is ∙ function_levels i le k.functions own_function function_is in
      let stands_there : IsTrue (stands_in p c.loops c.frame.body) = subst (λ b. IsTrue (stands_in p c.loops b)) (sym body_is) (lt-ltb k.functions (length p.functions) there) in
      let stood : Stands p bottom c ls bottom = record {
        names = names1;
        signatures = subst (λ s. SignaturesFit p s) (sym g.signatures) h.signatures;
        rank = 1;
        levels_are = levels_are;
        low = omega arith;
        body = stands_there;
        first = refl;
        last = ap (slice_get ls) (g.level ∙ h.level);
      } in
      let e : Ends p bottom after bottom = record { cells = omega arith; rest = []; own = sym (append-nil after.own); loops = low } in
      let split' : drop c.loops p.loops ≡ made ++ rest = ap (λ i. drop i p.loops) g.loops ∙ split in
      let n : RowNamed p bottom c after row made = row_named p bottom c body row made rest ls bottom stood q.1 resolves e split' in
      let room : c.frame.cells + length c.given ≤ 16 = g.room (omega arith) in
      let words_few : c.frame.cells ≤ 256 = omega arith in
      let A = at_most c.frame.cells after.frame.cells in
      let B = at_most after.frame.cells 256 in
      let C = at_most (c.frame.cells + length after.given) 16 in
      let D = at_most (length after.own) 64 in
      let E = row_is_named p (bodies.Function k.functions) row in
      let no_own : length c.own ≡ 0 = ap length g.own in
      let own_few : length after.own ≤ 64 =
      let y = up.count (omega arith) in
      let z = up.within (let w = h.within in let v = g.reducers in omega arith) in
      omega arith in
      let given_same : length after.given ≡ length c.given = ap length up.given in
      let row_there : IsTrue E = subst (λ b. IsTrue (row_is_named p b row)) body_is n.row in
      let named : IsTrue (function_is_named p k.functions own_function) =
      and_from (A && B && C && D) E
      (and_from (A && B && C) D
      (and_from (A && B) C (and_from A B (at_most_from c.frame.cells after.frame.cells up.cells) (at_most_from after.frame.cells 256 (up.most words_few)))
      (at_most_from (c.frame.cells + length after.given) 16 (omega arith)))
      (at_most_from (length after.own) 64 own_few))
      row_there in
      record {
        function = subst (λ y. IsTrue (function_is_named p k.functions y)) (sym is) named;
        loops = subst (λ i. IsTrue (loops_are_named p i made)) g.loops n.loops;
        count = let y = n.count in let z = g.loops in omega arith;
        between = between_declare k d x (meanings.Function k.functions) h refl there h.most (up.within (let w = h.within in let v = g.reducers in omega arith))
            (let y = up.reducers in let v = g.reducers in let w = h.count in omega arith);
        before = let y = up.loops in let z = g.loops in omega arith;
      }
    where
      function_levels : (i : ℕ) → 1 ≤ i → (n : ℕ) (f : Function) → function_at p n ≡ f → levels i p (bodies.Function n) ≡ function_level f ∷ []
      function_levels zero le n f is = absurd (omega arith)
      function_levels (suc i) le n f is = ap (λ g. function_level g ∷ []) is

  before_function : (k : Known) (returns : ReturnType) (x : Name) (ps : List Parameter) (body : trees.Statements) → k.loops ≤ (behind_item k (trees.Function returns x ps body)).loops
      → Before (behind_item k (trees.Function returns x ps body)) → Before k
  before_function k returns x ps body le b = record { cells = b.cells; openings = b.openings; kinds = b.kinds; shared = b.shared; loops = let y = b.loops in omega arith }

  -- loops are only ever added
  function_grows : (k : Known) (returns : ReturnType) (x : Name) (ps : List Parameter) (body : trees.Statements) → item_faults k (trees.Function returns x ps body) ≡ []
      → k.loops ≤ (behind_item k (trees.Function returns x ps body)).loops
  function_grows k returns x ps body f =
      let q = function_row_right k returns x ps body f in
      let c0 = in_function k returns x in
      let c = with_parameters c0 ps in
      let y = (grows_row c body q.1).loops in
      let z = (given_parameters c0 ps q.0).loops in
      omega arith

  before_items : (k : Known) (items : List Item) → items_faults k items ≡ [] → Before (behind_items k items) → Before k
  before_items k [] f b = b
  before_items k (trees.Globals vs ∷ rest) f b =
      let d = behind_item k (trees.Globals vs) in
      before_line k vs (before_items d rest (both_nil (item_faults k (trees.Globals vs)) (items_faults d rest) f).1 b)
  before_items k (trees.Item.Reducer r ∷ rest) f b =
      let d = behind_item k (trees.Item.Reducer r) in
      before_reducer k r (before_items d rest (both_nil (item_faults k (trees.Item.Reducer r)) (items_faults d rest) f).1 b)
  before_items k (trees.Function returns x ps body ∷ rest) f b =
      let i = trees.Function returns x ps body in
      let d = behind_item k i in
      let q = both_nil (item_faults k i) (items_faults d rest) f in
      before_function k returns x ps body (function_grows k returns x ps body q.0) (before_items d rest q.1 b)

  -- all functions and loops
  record ItemsNamed (k : Known) (fs : List Function) (made : List Loop) (last : Known) : Type 0 where
    functions : IsTrue (functions_are_named p k.functions fs)
    loops : IsTrue (loops_are_named p k.loops made)
    between : Between last

  items_named : (k : Known) (items : List Item) (fs : List Function) (made : List Loop) → Between k → items_faults k items ≡ [] → ResolvesItems k items fs made → Before (behind_items k items)
      → drop k.functions p.functions ≡ fs → drop k.loops p.loops ≡ made → ItemsNamed k fs made (behind_items k items)
  items_named k [] fs made h f (none, no_loops) b at split = record {
    functions = subst (λ y. IsTrue (functions_are_named p k.functions y)) (sym none) refl;
    loops = subst (λ y. IsTrue (loops_are_named p k.loops y)) (sym no_loops) refl;
    between = h;
  }
  items_named k (trees.Globals vs ∷ rest) fs made h f m b at split =
      let d = behind_item k (trees.Globals vs) in
      let q = both_nil (item_faults k (trees.Globals vs)) (items_faults d rest) f in
      let there : Before d = before_items d rest q.1 b in
      let same_functions : d.functions ≡ k.functions = line_functions k vs in
      let same_loops : d.loops ≡ k.loops = line_loops k vs in
      let n = items_named d rest fs made (line_between k vs h q.0 there) q.1 m b (ap (λ i. drop i p.functions) same_functions ∙ at) (ap (λ i. drop i p.loops) same_loops ∙ split) in
      record {
        functions = subst (λ i. IsTrue (functions_are_named p i fs)) same_functions n.functions;
        loops = subst (λ i. IsTrue (loops_are_named p i made)) same_loops n.loops;
        between = n.between;
      }
    where
      line_functions : (k : Known) (vs : List GlobalVariable) → (behind_line k vs).functions ≡ k.functions
      line_functions k [] = refl
      line_functions k (globals.Variable x i ∷ vs) = line_functions (behind_global k (globals.Variable x i)) vs
      line_functions k (globals.Array x z ∷ vs) = line_functions (behind_global k (globals.Array x z)) vs

      line_loops : (k : Known) (vs : List GlobalVariable) → (behind_line k vs).loops ≡ k.loops
      line_loops k [] = refl
      line_loops k (globals.Variable x i ∷ vs) = line_loops (behind_global k (globals.Variable x i)) vs
      line_loops k (globals.Array x z ∷ vs) = line_loops (behind_global k (globals.Array x z)) vs
  items_named k (trees.Item.Reducer r ∷ rest) fs made h f m b at split =
      let d = behind_item k (trees.Item.Reducer r) in
      let q = both_nil (item_faults k (trees.Item.Reducer r)) (items_faults d rest) f in
      let n = items_named d rest fs made (reducer_between k r h q.0 (before_items d rest q.1 b)) q.1 m b at split in
      record { functions = n.functions; loops = n.loops; between = n.between }
  items_named k (trees.Function returns x ps body ∷ rest) fs made h f (row, fs', first, second, m, l, is, all) b at split =
      let i = trees.Function returns x ps body in
      let d = behind_item k i in
      let c = with_parameters (in_function k returns x) ps in
      let after = behind_row c body in
      let own_function : Function = record { words = c.frame.cells; given = after.given; cells = after.frame.cells; reducers = after.own; body = row } in
      let q = both_nil (item_faults k i) (items_faults d rest) f in
      let there : Before d = before_items d rest q.1 b in
      let get = get_drop p.functions fs' k.functions own_function (at ∙ is) in
      let parts : drop k.loops p.loops ≡ first ++ second = split ∙ all in
      let n = function_named k returns x ps body row own_function first second h q.0 get.0 get.1 m refl there.loops parts in
      let later : drop d.loops p.loops ≡ second = ap (λ j. drop j p.loops) n.count ∙ drop_more p.loops first second k.loops parts in
      let o = items_named d rest fs' second n.between q.1 l b get.2 later in
      let one : k.functions + 1 ≡ suc k.functions = omega arith in
      record {
        functions = subst (λ y. IsTrue (functions_are_named p k.functions y)) (sym is)
            (and_from (function_is_named p k.functions own_function) (functions_are_named p (suc k.functions) fs') n.function (subst (λ j. IsTrue (functions_are_named p j fs')) one o.functions));
        loops = subst (λ y. IsTrue (loops_are_named p k.loops y)) (sym all)
            (loops_named_append p k.loops first second n.loops (subst (λ j. IsTrue (loops_are_named p j second)) n.count o.loops));
        between = o.between;
      }

-- the functions match their signatures
record FunctionsFit (fs : List Function) (sigs : List Signature) : Type 0 where
  words : (n : ℕ) → n < length fs → let f = unwrap_or (slice_get fs n) idle in let s = unwrap_or (slice_get sigs n) plain in f.words ≡ words_in s.parameters
  given : (n : ℕ) → n < length fs → let f = unwrap_or (slice_get fs n) idle in let s = unwrap_or (slice_get sigs n) plain in f.given ≡ given_in s.parameters

functions_fit : (k : Known) (text : List ℕ) (items : List Item) (fs : List Function) (made : List Loop) → k.names.text ≡ text → items_faults k items ≡ [] → ResolvesItems k items fs made
    → FunctionsFit fs (signatures_of text items)
functions_fit k text [] fs made t f (none, no_loops) =
    subst (λ y. FunctionsFit y []) (sym none) (record { words = λ n lt. absurd (omega arith); given = λ n lt. absurd (omega arith) })
functions_fit k text (trees.Globals vs ∷ rest) fs made t f m =
    functions_fit (behind_item k (trees.Globals vs)) text rest fs made (line_text k vs ∙ t) (both_nil (item_faults k (trees.Globals vs)) (items_faults (behind_item k (trees.Globals vs)) rest) f).1 m
  where
    line_text : (k : Known) (vs : List GlobalVariable) → (behind_line k vs).names.text ≡ k.names.text
    line_text k [] = refl
    line_text k (globals.Variable x i ∷ vs) = line_text (behind_global k (globals.Variable x i)) vs
    line_text k (globals.Array x z ∷ vs) = line_text (behind_global k (globals.Array x z)) vs
functions_fit k text (trees.Item.Reducer r ∷ rest) fs made t f m =
    functions_fit (behind_item k (trees.Item.Reducer r)) text rest fs made t (both_nil (item_faults k (trees.Item.Reducer r)) (items_faults (behind_item k (trees.Item.Reducer r)) rest) f).1 m
functions_fit k text (trees.Function returns x ps body ∷ rest) fs made t f (row, fs', first, second, m, l, is, all) =
    let i = trees.Function returns x ps body in
    let c0 = in_function k returns x in
    let c = with_parameters c0 ps in
    let after = behind_row c body in
    let q = both_nil (item_faults k i) (items_faults (behind_item k i) rest) f in
    let r = function_row_right k returns x ps body q.0 in
    let g : Given c0 c ps = given_parameters c0 ps r.0 in
    let own_function : Function = record { words = c.frame.cells; given = after.given; cells = after.frame.cells; reducers = after.own; body = row } in
    let n : FunctionsFit fs' (signatures_of text rest) = functions_fit (behind_item k i) text rest fs' second t q.1 l in
    let s : Signature = record { returns = returns; parameters = kinds_of text ps } in
    let words_are : own_function.words ≡ words_in s.parameters = let y : c.frame.cells ≡ words_in (kinds_of k.names.text ps) = let z = g.cells in omega arith in y ∙ ap (λ u. words_in (kinds_of u ps)) t in
    let given_are : own_function.given ≡ given_in s.parameters = (grows_row c body r.1).given ∙ g.given ∙ ap (λ u. given_in (kinds_of u ps)) t in
    subst (λ y. FunctionsFit y (s ∷ signatures_of text rest)) (sym is) (fit_more own_function fs' s (signatures_of text rest) words_are given_are n)
  where
    fit_more : (f : Function) (fs : List Function) (s : Signature) (sigs : List Signature) → f.words ≡ words_in s.parameters → f.given ≡ given_in s.parameters → FunctionsFit fs sigs → FunctionsFit (f ∷ fs) (s ∷ sigs)
    fit_more f fs s sigs w g n = record { words = words_more f fs s sigs w n; given = given_more f fs s sigs g n }
      where
        words_more : (f : Function) (fs : List Function) (s : Signature) (sigs : List Signature) → f.words ≡ words_in s.parameters → FunctionsFit fs sigs → (n : ℕ) → n < suc (length fs)
            → let g = unwrap_or (slice_get (f ∷ fs) n) idle in let t = unwrap_or (slice_get (s ∷ sigs) n) plain in g.words ≡ words_in t.parameters
        words_more f fs s sigs w k zero lt = w
        words_more f fs s sigs w k (suc n) lt = k.words n (omega arith)

        given_more : (f : Function) (fs : List Function) (s : Signature) (sigs : List Signature) → f.given ≡ given_in s.parameters → FunctionsFit fs sigs → (n : ℕ) → n < suc (length fs)
            → let g = unwrap_or (slice_get (f ∷ fs) n) idle in let t = unwrap_or (slice_get (s ∷ sigs) n) plain in g.given ≡ given_in t.parameters
        given_more f fs s sigs g k zero lt = g
        given_more f fs s sigs g k (suc n) lt = k.given n (omega arith)

-- known functions exist
functions_there : (k : Known) (text : List ℕ) (m : ℕ) (items : List Item) (fs : List Function) (made : List Loop) (q : List ℕ) (e : Binding) → ResolvesItems k items fs made
    → functions_known text m items q ≡ Some e → (n : ℕ) × (e.meaning ≡ meanings.Function n) × (n < m + length fs)
functions_there k text m [] fs made q e h is = absurd cc
functions_there k text m (trees.Globals vs ∷ rest) fs made q e h is = functions_there (behind_item k (trees.Globals vs)) text m rest fs made q e h is
functions_there k text m (trees.Item.Reducer r ∷ rest) fs made q e h is = functions_there (behind_item k (trees.Item.Reducer r)) text m rest fs made q e h is
functions_there k text m (trees.Function returns x ps body ∷ rest) fs made q e (row, fs', first, second, l, g, all, parts) is =
    let count : length fs ≡ suc (length fs') = ap length all in
    there_cases (bytes_eq (trees.bytes_of text x) q) is count (functions_there (behind_item k (trees.Function returns x ps body)) text (m + 1) rest fs' second q e g)
  where
    there_cases : (b : Bool) → (if b then Some (record { meaning = meanings.Function m; declared = false }) else functions_known text (m + 1) rest q) ≡ Some e → length fs ≡ suc (length fs')
        → (functions_known text (m + 1) rest q ≡ Some e → (n : ℕ) × (e.meaning ≡ meanings.Function n) × (n < m + 1 + length fs'))
        → (n : ℕ) × (e.meaning ≡ meanings.Function n) × (n < m + length fs)
    there_cases true f c next = let known : Binding = record { meaning = meanings.Function m; declared = false } in let same : known ≡ e = cc in (m, sym (ap (λ (y : Binding). y.meaning) same), omega arith)
    there_cases false f c next = let r = next f in (r.0, r.1, let lt = r.2 in omega arith)

-- the main function exists and has no parameters
main_there : (k : Known) (text : List ℕ) (m n : ℕ) (items : List Item) (fs : List Function) (made : List Loop) → items_faults k items ≡ [] → ResolvesItems k items fs made → main_of text m items ≡ Some n
    → (i : ℕ) × (n ≡ m + i) × (i < length fs) × (let f = unwrap_or (slice_get fs i) idle in (f.words ≡ 0) × (f.given ≡ []))
main_there k text m n [] fs made f h is = absurd cc
main_there k text m n (trees.Globals vs ∷ rest) fs made f h is =
    main_there (behind_item k (trees.Globals vs)) text m n rest fs made (both_nil (item_faults k (trees.Globals vs)) (items_faults (behind_item k (trees.Globals vs)) rest) f).1 h is
main_there k text m n (trees.Item.Reducer r ∷ rest) fs made f h is =
    main_there (behind_item k (trees.Item.Reducer r)) text m n rest fs made (both_nil (item_faults k (trees.Item.Reducer r)) (items_faults (behind_item k (trees.Item.Reducer r)) rest) f).1 h is
main_there k text m n (trees.Function returns x ps body ∷ rest) fs made f (row, fs', first, second, l, g, all, parts) is =
    let i = trees.Function returns x ps body in
    let c = with_parameters (in_function k returns x) ps in
    let after = behind_row c body in
    let own_function : Function = record { words = c.frame.cells; given = after.given; cells = after.frame.cells; reducers = after.own; body = row } in
    let q = both_nil (item_faults k i) (items_faults (behind_item k i) rest) f in
    let r = function_row_right k returns x ps body q.0 in
    let given_same : after.given ≡ c.given = (grows_row c body r.1).given in
    subst (λ (ys : List Function). (i : ℕ) × (n ≡ m + i) × (i < length ys) × (let g = unwrap_or (slice_get ys i) idle in (g.words ≡ 0) × (g.given ≡ []))) (sym all)
    (main_cases own_function (is_main text returns x ps) refl is
    (λ e. let none : ps ≡ [] = plain_main ps returns e in
    (ap (λ (zs : List Parameter). let d = with_parameters (in_function k returns x) zs in d.frame.cells) none, given_same ∙ ap (λ (zs : List Parameter). let d = with_parameters (in_function k returns x) zs in d.given) none))
    (λ e. main_there (behind_item k i) text (m + 1) n rest fs' second q.1 g e))
  where
    plain_main : (ps : List Parameter) (r : ReturnType) → is_main text r x ps ≡ true → ps ≡ []
    plain_main [] r h = refl
    plain_main (p ∷ ps) Int h = absurd cc
    plain_main (p ∷ ps) Void h = absurd cc

    main_cases : (f : Function) (b : Bool) → is_main text returns x ps ≡ b → (if b then Some m else main_of text (m + 1) rest) ≡ Some n
        → (is_main text returns x ps ≡ true → (f.words ≡ 0) × (f.given ≡ []))
        → (main_of text (m + 1) rest ≡ Some n → (i : ℕ) × (n ≡ m + 1 + i) × (i < length fs') × (let g = unwrap_or (slice_get fs' i) idle in (g.words ≡ 0) × (g.given ≡ [])))
        → (i : ℕ) × (n ≡ m + i) × (i < suc (length fs')) × (let g = unwrap_or (slice_get (f ∷ fs') i) idle in (g.words ≡ 0) × (g.given ≡ []))
    main_cases f true e h here next = let same : m ≡ n = cc in (0, omega arith, omega arith, here e)
    main_cases f false e h here next = let r = next h in (suc r.0, let y = r.1 in omega arith, let lt = r.2 in omega arith, r.3)

-- the number of loops after a statement
locals_count : (c : Context) (ls : List trees.Local) → (behind_locals c ls).loops ≡ c.loops
locals_count c [] = refl
locals_count c (l ∷ ls) = locals_count (with_variable c l.name) ls

beginning_count : (c : Context) (b : Option trees.Beginning) → (behind_beginning c b).loops ≡ c.loops
beginning_count c None = refl
beginning_count c (Some (trees.Declares x e)) = refl
beginning_count c (Some (trees.Assigns a)) = refl

mutual
  statement_count : (c : Context) (s : trees.Statement) → (behind c s).loops ≡ c.loops + length (loops_of c s)
  statement_count c trees.Empty = omega arith
  statement_count c (trees.Block row) = row_count (inside c) row
  statement_count c (trees.Declare ls) = let e = locals_count c ls in omega arith
  statement_count c (trees.Statement.Reducer r) = omega arith
  statement_count c (trees.Assign a) = omega arith
  statement_count c (trees.Statement.Invoke how k) = omega arith
  statement_count c (trees.AssignCall x how k) = omega arith
  statement_count c trees.Sync = omega arith
  statement_count c (trees.If e s) = statement_count (inside c) s
  statement_count c (trees.IfElse e s other) =
      let d = inside (behind_scope c (behind (inside c) s)) in
      let x = statement_count (inside c) s in
      let y = statement_count d other in
      let z = length-append (loops_of (inside c) s) (loops_of d other) in
      omega arith
  statement_count c (trees.While e s) = statement_count (inside c) s
  statement_count c (trees.For b e a s) = let x = statement_count (inside (behind_beginning (inside c) b)) s in let y = beginning_count (inside c) b in omega arith
  statement_count c (trees.ParallelFor b s) = let x = statement_count (inside (in_body c b.variable)) s in omega arith
  statement_count c (trees.Return place e) = omega arith
  statement_count c (trees.Print e) = omega arith
  statement_count c (trees.Update x e) = omega arith
  statement_count c (trees.Statement.Set x e) = omega arith

  row_count : (c : Context) (row : trees.Statements) → (behind_row c row).loops ≡ c.loops + length (row_loops c row)
  row_count c trees.End = omega arith
  row_count c (trees.Then s row) =
      let a = ahead c s in
      let x = statement_count a s in
      let y = row_count (behind a s) row in
      let z = length-append (loops_of a s) (row_loops (behind a s) row) in
      omega arith

parameters_count : (c : Context) (ps : List Parameter) → (with_parameters c ps).loops ≡ c.loops
parameters_count c [] = refl
parameters_count c (parameters.Variable x ∷ ps) = parameters_count (with_variable c x) ps
parameters_count c (parameters.Reducer r ∷ ps) = parameters_count (with_parameter c (parameters.Reducer r)) ps

line_count : (k : Known) (vs : List GlobalVariable) → (behind_line k vs).loops ≡ k.loops
line_count k [] = refl
line_count k (globals.Variable x i ∷ vs) = line_count (behind_global k (globals.Variable x i)) vs
line_count k (globals.Array x z ∷ vs) = line_count (behind_global k (globals.Array x z)) vs

items_count : (k : Known) (items : List Item) → (behind_items k items).loops ≡ k.loops + length (items_loops k items)
items_count k [] = omega arith
items_count k (trees.Globals vs ∷ rest) = let x = items_count (behind_item k (trees.Globals vs)) rest in let y = line_count k vs in omega arith
items_count k (trees.Item.Reducer r ∷ rest) = items_count (behind_item k (trees.Item.Reducer r)) rest
items_count k (trees.Function returns x ps body ∷ rest) =
    let d = behind_item k (trees.Function returns x ps body) in
    let c = with_parameters (in_function k returns x) ps in
    let u = items_count d rest in
    let v = row_count c body in
    let w = parameters_count (in_function k returns x) ps in
    let z = length-append (row_loops c body) (items_loops d rest) in
    omega arith

-- before the first item
start_between : (t : Tree) (n : ℕ) → faults_of t ≡ [] → main_of t.text.items 0 (program t) ≡ Some n → Between (program_of t n) (start t.text.items (program t))
start_between t n h m =
    let k = start t.text.items (program t) in
    let p = program_of t n in
    let r = program_resolves t n h m in
    let f = functions_fit k t.text.items (program t) p.functions p.loops refl (tree_parts t h).0 r.functions in
    record {
      names = record {
        fits = λ q e is.
            let known : functions_known t.text.items 0 (program t) q ≡ Some e = or_nothing (functions_known t.text.items 0 (program t) q) e is in
            let there = functions_there k t.text.items 0 (program t) p.functions p.loops q e r.functions known in
            subst (λ (x : Meaning). MeaningFits p [] 0 x) (sym there.1) (let lt = there.2 in omega arith);
      };
      signatures = record { words = f.words; given = f.given };
      level = refl;
      most = omega arith;
      within = omega arith;
      count = omega arith;
    }
  where
    or_nothing : (o : Option Binding) (e : Binding) → option_or o None ≡ Some e → o ≡ Some e
    or_nothing None e h = h
    or_nothing (Some x) e h = h

kinds_length : (rs : List GlobalReducer) → length (map (λ (g : GlobalReducer). g.kind) rs) ≡ length rs
kinds_length [] = refl
kinds_length (g ∷ rs) = ap suc (kinds_length rs)

pub well_named : (t : Tree) (n : ℕ) → faults_of t ≡ [] → main_of t.text.items 0 (program t) ≡ Some n → IsTrue (is_well_named (program_of t n))
well_named t n h m =
    let k = start t.text.items (program t) in
    let last = behind_items k (program t) in
    let p = program_of t n in
    let r = program_resolves t n h m in
    let right = (tree_parts t h).0 in
    let b : Before p last = record {
      cells = [];
      openings = sym (append-nil last.openings);
      kinds = [];
      shared = sym (append-nil (map (λ (g : GlobalReducer). g.kind) last.shared));
      loops = let x = items_count k (program t) in omega arith;
    } in
    let i = items_named p k (program t) p.functions p.loops (start_between t n h m) right r.functions b refl refl in
    let at = main_there k t.text.items 0 n (program t) p.functions p.loops right r.functions m in
    let few : length p.reducers ≤ 64 = let x = kinds_length last.shared in let y = i.between.count in let z = i.between.within in omega arith in
    let there : n < length p.functions = let x = at.1 in let y = at.2 in omega arith in
    let same : at.0 ≡ n = let x = at.1 in omega arith in
    let f = syntax.main_of p in
    let words : f.words ≡ 0 = ap (λ j. let g = function_at p j in g.words) (sym same) ∙ at.3.0 in
    let given : length f.given ≡ 0 = ap (λ j. let g = function_at p j in length g.given) (sym same) ∙ ap length at.3.1 in
    let A = at_most (length p.openings) 1000000 in
    let B = at_most (length p.reducers) 64 in
    let C = nat_lt n (length p.functions) in
    let D = main_is_plain f in
    let E = functions_are_named p 0 p.functions in
    let F = loops_are_named p 0 p.loops in
    and_from (A && B && C && D && E) F
    (and_from (A && B && C && D) E
    (and_from (A && B && C) D
    (and_from (A && B) C
    (and_from A B (at_most_from (length p.openings) 1000000 i.between.most) (at_most_from (length p.reducers) 64 few))
    (lt-ltb n (length p.functions) there))
    (and_from (nat_eq f.words 0) (nat_eq (length f.given) 0) (eq-eqb f.words 0 words) (eq-eqb (length f.given) 0 given)))
    i.functions)
    i.loops

-- the program of a tree
pub resolved_named : (t : Tree) (s : Source) → Resolves t s → IsTrue (is_well_named s)
resolved_named t s h = subst (λ (x : Source). IsTrue (is_well_named x)) (sym (resolves_only t s h)) (well_named t s.main h.right h.main)
