-- A tree resolves if and only if it has no fault, and then to one program.
use Rattle.std.proofs.Common.{◌≡◌, ℕ, List, [], ◌∷◌, ◌++◌, length, map, Option, Some, None, refl, sym, ap, ◌∙◌}
use Rattle.cilk_syntax.specs.declared.tree.Tree.{Tree}
use Rattle.cilk_syntax.specs.Trees as trees
use Rattle.cilk_syntax.specs.Trees.{Item, program}
use Rattle.cilk_program.specs.Syntax as syntax
use Rattle.cilk_program.specs.Syntax.{Loop, Source, Statements}
use Rattle.cilk_names.specs.declared.kind.Misnaming.{Misnaming}
use Rattle.cilk_names.specs.Contexts.{behind_row, with_parameters}
use Rattle.cilk_names.specs.Globals.{Known, start, in_function, behind_item, behind_items, main_of}
use Rattle.cilk_names.specs.Faults.{again_faults}
use Rattle.cilk_names.specs.Misnamings.{limit_faults, parameters_faults, row_faults, item_faults, items_faults, or_no_main, faults_of}
use Rattle.cilk_names.specs.declared.limits.TheConstants.{MAX_FUNCTIONS}
use Rattle.cilk_names.specs.Pass.{row_of, row_loops, function_of_body, items_functions, items_loops}
use Rattle.cilk_names.specs.Resolution.{ResolvesItems, Resolves}
use Rattle.cilk_names.proofs.Rights.{both_nil, row_right}
use Rattle.cilk_names.proofs.Onlys.{row_only}
use Rattle.cilk_names.proofs.Made.{program_of}

-- a function's body
pub function_row_right : (k : Known) (returns : _) (x : _) (ps : List _) (body : trees.Statements) → item_faults k (trees.Function returns x ps body) ≡ []
    → (parameters_faults (in_function k returns x) ps ≡ []) × (row_faults (with_parameters (in_function k returns x) ps) body ≡ []) × (limit_faults MAX_FUNCTIONS k.functions x ≡ [])
function_row_right k returns x ps body h =
    let c = in_function k returns x in
    let p = both_nil (again_faults k.names x ++ limit_faults MAX_FUNCTIONS k.functions x ++ parameters_faults c ps) (row_faults (with_parameters c ps) body) h in
    let q = both_nil (again_faults k.names x ++ limit_faults MAX_FUNCTIONS k.functions x) (parameters_faults c ps) p.0 in
    (q.1, p.1, (both_nil (again_faults k.names x) (limit_faults MAX_FUNCTIONS k.functions x) q.0).1)

items_right : (k : Known) (items : List Item) → items_faults k items ≡ [] → ResolvesItems k items (items_functions k items) (items_loops k items)
items_right k [] h = (refl, refl)
items_right k (trees.Globals vs ∷ rest) h =
    items_right (behind_item k (trees.Globals vs)) rest (both_nil (item_faults k (trees.Globals vs)) (items_faults (behind_item k (trees.Globals vs)) rest) h).1
items_right k (trees.Item.Reducer r ∷ rest) h =
    items_right (behind_item k (trees.Item.Reducer r)) rest (both_nil (item_faults k (trees.Item.Reducer r)) (items_faults (behind_item k (trees.Item.Reducer r)) rest) h).1
items_right k (trees.Function returns x ps body ∷ rest) h =
    let i = trees.Function returns x ps body in
    let c = with_parameters (in_function k returns x) ps in
    let p = both_nil (item_faults k i) (items_faults (behind_item k i) rest) h in (
      row_of c body,
      items_functions (behind_item k i) rest,
      row_loops c body,
      items_loops (behind_item k i) rest,
      row_right c body (function_row_right k returns x ps body p.0).1,
      items_right (behind_item k i) rest p.1,
      refl,
      refl,
    )

items_only : (k : Known) (items : List Item) (fs : List syntax.Function) (ls : List Loop) → ResolvesItems k items fs ls → (fs ≡ items_functions k items) × (ls ≡ items_loops k items)
items_only k [] fs ls h = h
items_only k (trees.Globals vs ∷ rest) fs ls h = items_only (behind_item k (trees.Globals vs)) rest fs ls h
items_only k (trees.Item.Reducer r ∷ rest) fs ls h = items_only (behind_item k (trees.Item.Reducer r)) rest fs ls h
items_only k (trees.Function returns x ps body ∷ rest) fs ls (row, fs', first, second, m, n, is, all) =
    let i = trees.Function returns x ps body in
    let c = with_parameters (in_function k returns x) ps in
    let after = behind_row c body in
    let p = row_only c body row first m in
    let q = items_only (behind_item k i) rest fs' second n in (
      is
          ∙ ap (λ y. let f : syntax.Function = record { words = c.frame.cells; given = after.given; cells = after.frame.cells; reducers = after.own; body = y } in f ∷ fs') p.0
          ∙ ap (λ y. function_of_body c body ∷ y) q.0,
      all ∙ ap (λ y. y ++ second) p.1 ∙ ap (λ y. row_loops c body ++ y) q.1,
    )

-- there is no fault, so there is a main function
right_parts : (main : Option ℕ) (place : ℕ) (fs : List Misnaming) → or_no_main main place fs ≡ [] → (fs ≡ []) × ((n : ℕ) × (main ≡ Some n))
right_parts None place [] h = absurd cc
right_parts (Some n) place [] h = (refl, (n, refl))
right_parts None place (f ∷ fs) h = absurd cc
right_parts (Some n) place (f ∷ fs) h = absurd cc

pub tree_parts : (t : Tree) → faults_of t ≡ [] → (items_faults (start t.text.items (program t)) (program t) ≡ []) × ((n : ℕ) × (main_of t.text.items 0 (program t) ≡ Some n))
tree_parts t h = right_parts (main_of t.text.items 0 (program t)) (length t.text.items) (items_faults (start t.text.items (program t)) (program t)) h

pub program_resolves : (t : Tree) (n : ℕ) → faults_of t ≡ [] → main_of t.text.items 0 (program t) ≡ Some n → Resolves t (program_of t n)
program_resolves t n h m = record {
  right = h;
  openings = refl;
  reducers = refl;
  functions = items_right (start t.text.items (program t)) (program t) (tree_parts t h).0;
  main = m;
}

pub right_resolves : (t : Tree) → faults_of t ≡ [] → (s : Source) × Resolves t s
right_resolves t h = let m = (tree_parts t h).1 in (program_of t m.0, program_resolves t m.0 h m.1)

pub resolves_right : (t : Tree) → ((s : Source) × Resolves t s) → faults_of t ≡ []
resolves_right t (s, h) = h.right

-- the program of a tree is the result of the pass
pub resolves_only : (t : Tree) (s : Source) → Resolves t s → s ≡ program_of t s.main
resolves_only t s h =
    let k = start t.text.items (program t) in
    let after = behind_items k (program t) in
    let p = items_only k (program t) s.functions s.loops h.functions in
    ap (λ y. let r : Source = record { openings = y; reducers = s.reducers; functions = s.functions; loops = s.loops; main = s.main } in r) h.openings
    ∙ ap (λ y. let r : Source = record { openings = after.openings; reducers = y; functions = s.functions; loops = s.loops; main = s.main } in r) h.reducers
    ∙ ap (λ y. let r : Source = record { openings = after.openings; reducers = map (λ g. g.kind) after.shared; functions = y; loops = s.loops; main = s.main } in r) p.0
    ∙ ap (λ y. let r : Source = record { openings = after.openings; reducers = map (λ g. g.kind) after.shared; functions = items_functions k (program t); loops = y; main = s.main } in r) p.1

pub resolves_once : (t : Tree) (s s' : Source) → Resolves t s → Resolves t s' → s ≡ s'
resolves_once t s s' h h' =
    let same : Some s.main ≡ Some s'.main = sym h.main ∙ h'.main in
    let e : s.main ≡ s'.main = cc in
    resolves_only t s h ∙ ap (program_of t) e ∙ sym (resolves_only t s' h')
