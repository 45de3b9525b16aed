-- The items of a text, in order.
use Rattle.std.proofs.Common.{◌≡◌, ℕ, zero, suc, ◌+◌, ◌<◌, ◌≤◌, ℤ, pos, true, List, [], ◌∷◌, ◌++◌, length, drop, get_or, Option, refl, sym, ap, ◌∙◌, subst, append_assoc, add-one}
use Rattle.std.proofs.lemmas.List.{append-nil, drop_all}
use Rattle.std.proofs.Math.Seq.{drop-cons}
use Rattle.cilk_syntax.specs.declared.tree.Item as code
use Rattle.cilk_syntax.specs.declared.tree.GlobalVariable.{GlobalVariable}
use Rattle.cilk_syntax.specs.declared.tree.Name.{Name}
use Rattle.cilk_syntax.specs.declared.tree.ReturnType.{ReturnType}
use Rattle.cilk_syntax.specs.declared.tree.Parameter.{Parameter}
use Rattle.cilk_syntax.specs.declared.tree.Parameter.TheVariants as parameters
use Rattle.cilk_syntax.specs.Trees as trees
use Rattle.cilk_syntax.specs.Trees.{Item, items_of}
use Rattle.cilk_program.specs.declared.program.Body.TheVariants as bodies
use Rattle.cilk_program.specs.declared.program.GlobalReducer.{GlobalReducer}
use Rattle.cilk_program.specs.Syntax.{Function, Loop, Statements}
use Rattle.cilk_names.specs.declared.table.Meaning.TheVariants as meanings
use Rattle.cilk_names.specs.declared.kind.Misnaming.{Misnaming}
use Rattle.cilk_names.specs.Names.{Names, Scope, declare, opened}
use Rattle.cilk_names.specs.Contexts.{Context, behind_row, with_parameter, with_parameters, signatures_of, functions_known}
use Rattle.cilk_names.specs.declared.signature.Signature.{Signature}
use Rattle.cilk_names.specs.Globals.{Known, start, zeros, behind_global, behind_line, behind_item, behind_items, in_function, behind_function}
use Rattle.cilk_names.specs.Faults.{earliest}
use Rattle.cilk_names.specs.Misnamings.{global_faults, line_faults, item_faults, items_faults}
use Rattle.cilk_names.specs.Pass.{row_of, function_of_body, item_functions, item_loops, items_functions, items_loops}
use Rattle.cilk_names.proofs.Earliest.{earliest_append}
use Rattle.cilk_names.proofs.Behinds.{Keeps, same, then, keeps_variable, keeps_row, closed_names}

zeros_next : (n : ℕ) → zeros (suc n) ≡ zeros n ++ pos 0 ∷ []
zeros_next zero = refl
zeros_next (suc n) = ap (λ xs. pos 0 ∷ xs) (zeros_next n)

pub zeros_push : (from before now : List ℤ) (n : ℕ) → before ≡ from ++ zeros n → now ≡ before ++ pos 0 ∷ [] → now ≡ from ++ zeros (n + 1)
zeros_push from before now n h e =
    rw add-one (e ∙ ap (λ xs. xs ++ pos 0 ∷ []) h ∙ append_assoc from (zeros n) (pos 0 ∷ []) ∙ ap (λ xs. from ++ xs) (sym (zeros_next n)))

left_globals : (list : List GlobalVariable) (i : ℕ) (v : GlobalVariable) → i < length list → v ≡ get_or list i v → drop i list ≡ v ∷ drop (suc i) list
left_globals list i v h e = drop-cons list i v h ∙ ap (λ y. y ∷ drop (suc i) list) (sym e)

module _ (start before now : Known) (list : List GlobalVariable) (i : ℕ) (v : GlobalVariable) (lt : i < length list) (at : v ≡ get_or list i v) (is : now ≡ behind_global before v) where
  pub globals_known : behind_line before (drop i list) ≡ behind_line start list → behind_line now (drop (i + 1) list) ≡ behind_line start list
  globals_known h =
      rw add-one (ap (λ c. behind_line c (drop (suc i) list)) is ∙ ap (λ x. behind_line before x) (sym (left_globals list i v lt at)) ∙ h)

  pub globals_step : (from first next : Option Misnaming)
      → earliest first (line_faults before (drop i list)) ≡ earliest from (line_faults start list)
      → next ≡ earliest first (global_faults before v)
      → earliest next (line_faults now (drop (i + 1) list)) ≡ earliest from (line_faults start list)
  globals_step from first next h n =
      rw add-one (
      ap (λ c. earliest next (line_faults c (drop (suc i) list))) is
      ∙ ap (λ x. earliest x (line_faults (behind_global before v) (drop (suc i) list))) n
      ∙ sym (earliest_append first (global_faults before v) (line_faults (behind_global before v) (drop (suc i) list)))
      ∙ ap (λ x. earliest first (line_faults before x)) (sym (left_globals list i v lt at))
      ∙ h)

module _ (start now : Known) (list : List GlobalVariable) (i : ℕ) (le : length list ≤ i) where
  pub globals_known_end : behind_line now (drop i list) ≡ behind_line start list → now ≡ behind_line start list
  globals_known_end h = ap (λ x. behind_line now x) (sym (drop_all i list le)) ∙ h

  pub globals_end : (from first : Option Misnaming) → earliest first (line_faults now (drop i list)) ≡ earliest from (line_faults start list)
      → first ≡ earliest from (line_faults start list)
  globals_end from first h = ap (λ x. earliest first (line_faults now x)) (sym (drop_all i list le)) ∙ h

left_items : (list : List code.Item) (i : ℕ) (x : code.Item) → i < length list → x ≡ get_or list i x → items_of (drop i list) ≡ trees.item x ∷ items_of (drop (suc i) list)
left_items list i x h e = ap items_of (drop-cons list i x h ∙ ap (λ y. y ∷ drop (suc i) list) (sym e))

none : (list : List code.Item) (i : ℕ) → length list ≤ i → items_of (drop i list) ≡ []
none list i h = ap items_of (drop_all i list h)

module _ (start before now : Known) (list : List code.Item) (i : ℕ) (x : code.Item) (lt : i < length list) (at : x ≡ get_or list i x) (is : now ≡ behind_item before (trees.item x)) where
  pub items_known : behind_items before (items_of (drop i list)) ≡ behind_items start (items_of list) → behind_items now (items_of (drop (i + 1) list)) ≡ behind_items start (items_of list)
  items_known h =
      rw add-one (ap (λ c. behind_items c (items_of (drop (suc i) list))) is ∙ ap (λ y. behind_items before y) (sym (left_items list i x lt at)) ∙ h)

  pub items_step : (from first next : Option Misnaming)
      → earliest first (items_faults before (items_of (drop i list))) ≡ earliest from (items_faults start (items_of list))
      → next ≡ earliest first (item_faults before (trees.item x))
      → earliest next (items_faults now (items_of (drop (i + 1) list))) ≡ earliest from (items_faults start (items_of list))
  items_step from first next h n =
      rw add-one (
      ap (λ c. earliest next (items_faults c (items_of (drop (suc i) list)))) is
      ∙ ap (λ y. earliest y (items_faults (behind_item before (trees.item x)) (items_of (drop (suc i) list)))) n
      ∙ sym (earliest_append first (item_faults before (trees.item x)) (items_faults (behind_item before (trees.item x)) (items_of (drop (suc i) list))))
      ∙ ap (λ y. earliest first (items_faults before y)) (sym (left_items list i x lt at))
      ∙ h)

  pub functions_step : (from done more : List Function)
      → done ++ items_functions before (items_of (drop i list)) ≡ from ++ items_functions start (items_of list)
      → more ≡ done ++ item_functions before (trees.item x)
      → more ++ items_functions now (items_of (drop (i + 1) list)) ≡ from ++ items_functions start (items_of list)
  functions_step from done more h n =
      rw add-one (
      ap (λ c. more ++ items_functions c (items_of (drop (suc i) list))) is
      ∙ ap (λ y. y ++ items_functions (behind_item before (trees.item x)) (items_of (drop (suc i) list))) n
      ∙ append_assoc done (item_functions before (trees.item x)) (items_functions (behind_item before (trees.item x)) (items_of (drop (suc i) list)))
      ∙ ap (λ y. done ++ items_functions before y) (sym (left_items list i x lt at))
      ∙ h)

  pub loops_step : (from done more : List Loop)
      → done ++ items_loops before (items_of (drop i list)) ≡ from ++ items_loops start (items_of list)
      → more ≡ done ++ item_loops before (trees.item x)
      → more ++ items_loops now (items_of (drop (i + 1) list)) ≡ from ++ items_loops start (items_of list)
  loops_step from done more h n =
      rw add-one (
      ap (λ c. more ++ items_loops c (items_of (drop (suc i) list))) is
      ∙ ap (λ y. y ++ items_loops (behind_item before (trees.item x)) (items_of (drop (suc i) list))) n
      ∙ append_assoc done (item_loops before (trees.item x)) (items_loops (behind_item before (trees.item x)) (items_of (drop (suc i) list)))
      ∙ ap (λ y. done ++ items_loops before y) (sym (left_items list i x lt at))
      ∙ h)

module _ (start now : Known) (list : List code.Item) (i : ℕ) (le : length list ≤ i) where
  pub items_known_end : behind_items now (items_of (drop i list)) ≡ behind_items start (items_of list) → now ≡ behind_items start (items_of list)
  items_known_end h = ap (λ x. behind_items now x) (sym (none list i le)) ∙ h

  pub items_end : (from first : Option Misnaming) → earliest first (items_faults now (items_of (drop i list))) ≡ earliest from (items_faults start (items_of list))
      → first ≡ earliest from (items_faults start (items_of list))
  items_end from first h = ap (λ x. earliest first (items_faults now x)) (sym (none list i le)) ∙ h

  pub functions_end : (from done : List Function) → done ++ items_functions now (items_of (drop i list)) ≡ from ++ items_functions start (items_of list)
      → done ≡ from ++ items_functions start (items_of list)
  functions_end from done h = sym (append-nil done) ∙ ap (λ x. done ++ items_functions now x) (sym (none list i le)) ∙ h

  pub loops_end : (from done : List Loop) → done ++ items_loops now (items_of (drop i list)) ≡ from ++ items_loops start (items_of list)
      → done ≡ from ++ items_loops start (items_of list)
  loops_end from done h = sym (append-nil done) ∙ ap (λ x. done ++ items_loops now x) (sym (none list i le)) ∙ h

-- a function's scope closes
keeps_parameter : (c : Context) (p : Parameter) → Keeps c.names (with_parameter c p).names
keeps_parameter c (parameters.Variable x) = keeps_variable c x
keeps_parameter c (parameters.Reducer r) = record { text = refl; signatures = refl; outer = refl; level = refl }

keeps_parameters : (c : Context) (ps : List Parameter) → Keeps c.names (with_parameters c ps).names
keeps_parameters c [] = same c.names
keeps_parameters c (p ∷ ps) = then c.names (with_parameter c p).names (with_parameters (with_parameter c p) ps).names (keeps_parameter c p) (keeps_parameters (with_parameter c p) ps)

pub function_closed : (n : Names) (c : Context) (after : Context) (now : Names) (ps : List Parameter) (row : trees.Statements) → c.names ≡ opened n → after ≡ behind_row (with_parameters c ps) row
    → ((outer : List Scope) (inner : Scope) → after.names.outer ≡ outer ++ inner ∷ [] → now ≡ record after.names { inner = inner; outer = outer })
    → now ≡ n
function_closed n c after now ps row e is f =
    let h : Keeps c.names (behind_row (with_parameters c ps) row).names =
    then c.names (with_parameters c ps).names (behind_row (with_parameters c ps) row).names (keeps_parameters c ps) (keeps_row (with_parameters c ps) row) in
    let k : Keeps (opened n) after.names = subst (λ (m : Names). Keeps m after.names) e (subst (λ (a : Context). Keeps c.names a.names) (sym is) h) in
    f n.outer n.inner k.outer ∙ closed_names n after.names k.text k.signatures k.level

-- before a function's parameters
pub function_begun : (k : Known) (returns : ReturnType) (x : Name) (number reducers loops : ℕ) (declared : Names) (begun : Context)
    → number ≡ k.functions → declared ≡ declare k.names x (meanings.Function number) → reducers ≡ k.reducers → loops ≡ k.loops
    → begun ≡ record { names = opened declared; frame = record { body = bodies.Function number; returns = returns; cells = 0; heading = true }; given = []; own = []; reducers = reducers; loops = loops }
    → begun ≡ in_function k returns x
function_begun k returns x number reducers loops declared begun n d r l b =
    let of : Names → ℕ → ℕ → ℕ → Context = λ m i j h. record { names = opened m; frame = record { body = bodies.Function i; returns = returns; cells = 0; heading = true }; given = []; own = []; reducers = j; loops = h } in
    b
    ∙ ap (λ m. of m number reducers loops) (d ∙ ap (λ i. declare k.names x (meanings.Function i)) n)
    ∙ ap (λ i. of (declare k.names x (meanings.Function k.functions)) i reducers loops) n
    ∙ ap (λ j. of (declare k.names x (meanings.Function k.functions)) k.functions j loops) r
    ∙ ap (λ h. of (declare k.names x (meanings.Function k.functions)) k.functions k.reducers h) l

-- after its body
pub function_known : (k now : Known) (returns : ReturnType) (x : Name) (ps : List Parameter) (row : trees.Statements) (number reducers loops : ℕ) (declared : Names) (begun params after : Context)
    → number ≡ k.functions → declared ≡ declare k.names x (meanings.Function number) → reducers ≡ k.reducers → loops ≡ k.loops
    → begun ≡ record { names = opened declared; frame = record { body = bodies.Function number; returns = returns; cells = 0; heading = true }; given = []; own = []; reducers = reducers; loops = loops }
    → params ≡ with_parameters begun ps → after ≡ behind_row params row
    → ((outer : List Scope) (inner : Scope) → after.names.outer ≡ outer ++ inner ∷ [] → now.names ≡ record after.names { inner = inner; outer = outer })
    → now.openings ≡ k.openings → now.shared ≡ k.shared → now.functions ≡ k.functions + 1 → now.reducers ≡ after.reducers → now.loops ≡ after.loops
    → now ≡ behind_function k x (behind_row (with_parameters (in_function k returns x) ps) row)
function_known k now returns x ps row number reducers loops declared begun params after n d r l b q a f o s g h i =
    let c = in_function k returns x in
    let is : after ≡ behind_row (with_parameters c ps) row =
    a ∙ ap (λ (y : Context). behind_row y row) q ∙ ap (λ (y : Context). behind_row (with_parameters y ps) row) (function_begun k returns x number reducers loops declared begun n d r l b) in
    let last : Context = behind_row (with_parameters c ps) row in
    let names : now.names ≡ declare k.names x (meanings.Function k.functions) = function_closed (declare k.names x (meanings.Function k.functions)) c after now.names ps row refl is f in
    let of : Names → List ℤ → List GlobalReducer → ℕ → ℕ → ℕ → Known = λ m os ss fs rs ls. record { names = m; openings = os; shared = ss; functions = fs; reducers = rs; loops = ls } in
    ap (λ m. of m now.openings now.shared now.functions now.reducers now.loops) names
    ∙ ap (λ os. of (declare k.names x (meanings.Function k.functions)) os now.shared now.functions now.reducers now.loops) o
    ∙ ap (λ ss. of (declare k.names x (meanings.Function k.functions)) k.openings ss now.functions now.reducers now.loops) s
    ∙ ap (λ fs. of (declare k.names x (meanings.Function k.functions)) k.openings k.shared fs now.reducers now.loops) g
    ∙ ap (λ rs. of (declare k.names x (meanings.Function k.functions)) k.openings k.shared (k.functions + 1) rs now.loops) (h ∙ ap (λ (y : Context). y.reducers) is)
    ∙ ap (λ ls. of (declare k.names x (meanings.Function k.functions)) k.openings k.shared (k.functions + 1) last.reducers ls) (i ∙ ap (λ (y : Context). y.loops) is)

-- and the function that is made
pub function_made : (k : Known) (returns : ReturnType) (x : Name) (ps : List Parameter) (row : trees.Statements) (number reducers loops : ℕ) (declared : Names) (begun params after : Context) (f : Function) (v : Statements)
    → number ≡ k.functions → declared ≡ declare k.names x (meanings.Function number) → reducers ≡ k.reducers → loops ≡ k.loops
    → begun ≡ record { names = opened declared; frame = record { body = bodies.Function number; returns = returns; cells = 0; heading = true }; given = []; own = []; reducers = reducers; loops = loops }
    → params ≡ with_parameters begun ps → after ≡ behind_row params row
    → v ≡ row_of params row → f ≡ record { words = params.frame.cells; given = after.given; cells = after.frame.cells; reducers = after.own; body = v }
    → f ≡ function_of_body (with_parameters (in_function k returns x) ps) row
function_made k returns x ps row number reducers loops declared begun params after f v n d r l b q a e is =
    is
    ∙ ap (λ (y : Context). let g : Function = record { words = params.frame.cells; given = y.given; cells = y.frame.cells; reducers = y.own; body = v } in g) a
    ∙ ap (λ (y : Statements). let g : Function = record { words = params.frame.cells; given = (behind_row params row).given; cells = (behind_row params row).frame.cells; reducers = (behind_row params row).own; body = y } in g) e
    ∙ ap (λ (y : Context). function_of_body y row) (q ∙ ap (λ (y : Context). with_parameters y ps) (function_begun k returns x number reducers loops declared begun n d r l b))

-- before the first item
pub started : (k : Known) (text : List ℕ) (sigs : List Signature) (items : List Item)
    → k.names ≡ record { text = text; signatures = sigs; inner = functions_known text 0 items; outer = []; level = 0 } → sigs ≡ signatures_of text items
    → k.openings ≡ [] → k.shared ≡ [] → k.functions ≡ 0 → k.reducers ≡ 0 → k.loops ≡ 0 → k ≡ start text items
started k text sigs items n e o s f r l =
    let of : Names → List ℤ → List GlobalReducer → ℕ → ℕ → ℕ → Known = λ m os ss fs rs ls. record { names = m; openings = os; shared = ss; functions = fs; reducers = rs; loops = ls } in
    let begun : Known = start text items in
    let named : k.names ≡ begun.names = n ∙ ap (λ (x : List Signature). let m : Names = record { text = text; signatures = x; inner = functions_known text 0 items; outer = []; level = 0 } in m) e in
    ap (λ m. of m k.openings k.shared k.functions k.reducers k.loops) named
    ∙ ap (λ os. of begun.names os k.shared k.functions k.reducers k.loops) o
    ∙ ap (λ ss. of begun.names [] ss k.functions k.reducers k.loops) s
    ∙ ap (λ fs. of begun.names [] [] fs k.reducers k.loops) f
    ∙ ap (λ rs. of begun.names [] [] 0 rs k.loops) r
    ∙ ap (λ ls. of begun.names [] [] 0 0 ls) l
