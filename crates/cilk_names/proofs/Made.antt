-- The program that the code makes is the tree's.
use Rattle.std.proofs.Common.{◌≡◌, ℕ, ℤ, List, map, ap, ◌∙◌, subst}
use Rattle.cilk_syntax.specs.declared.tree.Item as code
use Rattle.cilk_syntax.specs.declared.tree.Tree.{Tree}
use Rattle.cilk_syntax.specs.Trees.{items_of, program}
use Rattle.cilk_monoid.specs.declared.kind.MonoidKind.{MonoidKind}
use Rattle.cilk_program.specs.declared.program.GlobalReducer.{GlobalReducer}
use Rattle.cilk_program.specs.Programs.{function, loop, source_of}
use Rattle.cilk_program.specs.Syntax.{Function, Loop, Source}
use Rattle.cilk_names.specs.declared.items.Pass.{Pass}
use Rattle.cilk_names.specs.Globals.{Known, start, behind_items}
use Rattle.cilk_names.specs.Pass.{items_functions, items_loops}
use Rattle.cilk_names.specs.States.{Comes}

-- the program of a tree whose main function has this number
abbrev pub program_of : Tree → ℕ → Source
program_of t main =
    let before = start t.text.items (program t) in
    let after = behind_items before (program t) in
    record {
      openings = after.openings;
      reducers = map (λ r. r.kind) after.shared;
      functions = items_functions before (program t);
      loops = items_loops before (program t);
      main = main;
    }

-- the tree's own text and items
pub comes : (p : Pass) (text text' : List ℕ) (list list' : List code.Item) → text ≡ text' → list ≡ list' → Comes p text (items_of list) → Comes p text' (items_of list')
comes p text text' list list' e f h =
    subst (λ (x : List ℕ). Comes p x (items_of list')) e (subst (λ (l : List code.Item). Comes p text (items_of l)) f h)

pub source_is : (t : Tree) (p : Pass) (globals : List ℤ) (main : ℕ) → Comes p t.text.items (program t) → globals ≡ p.openings
    → source_of globals p.shared.items p.functions.items p.scene.loops.items main ≡ program_of t main
source_is t p globals main h e =
    let k = start t.text.items (program t) in
    let after = behind_items k (program t) in
    let of : List ℤ → List MonoidKind → List Function → List Loop → Source = λ os rs fs ls. record { openings = os; reducers = rs; functions = fs; loops = ls; main = main } in
    let kinds : List GlobalReducer → List MonoidKind = map (λ (r : GlobalReducer). r.kind) in
    ap (λ os. of os (kinds p.shared.items) (map function p.functions.items) (map loop p.scene.loops.items)) (e ∙ ap (λ (y : Known). y.openings) h.known)
    ∙ ap (λ rs. of after.openings (kinds rs) (map function p.functions.items) (map loop p.scene.loops.items)) (ap (λ (y : Known). y.shared) h.known)
    ∙ ap (λ fs. of after.openings (kinds after.shared) fs (map loop p.scene.loops.items)) h.functions
    ∙ ap (λ ls. of after.openings (kinds after.shared) (items_functions k (program t)) ls) h.loops

pub shared_is : (t : Tree) (p : Pass) → Comes p t.text.items (program t) → (let after = behind_items (start t.text.items (program t)) (program t) in p.shared.items ≡ after.shared)
shared_is t p h = ap (λ (y : Known). y.shared) h.known
