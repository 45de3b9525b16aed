-- The layout of a program.
-- `function_frame_is`, `loop_cells_are`   the items of the layout's lists
-- `lays_out`                              the layout as a whole
use Rattle.std.proofs.Common.{◌≡◌, ℕ, zero, suc, ℤ, pos, ◌-ℤ◌, int_eq, if◌then◌else◌, map, List, [], ◌∷◌, refl, ap, ◌∙◌}
use Rattle.std.specs.Prelude.{slice_get, unwrap_or}
use Rattle.cilk_program.specs.declared.ask.Callee.{Callee}
use Rattle.cilk_program.specs.declared.ask.Callee.TheVariants as callees
use Rattle.cilk_program.specs.declared.program.Function as declared_functions
use Rattle.cilk_program.specs.declared.program.Loop as declared_loops
use Rattle.cilk_program.specs.declared.program.GlobalReducer.{GlobalReducer}
use Rattle.cilk_program.specs.Programs.{function, loop, source_of}
use Rattle.cilk_program.specs.Syntax.{Loop, Source, function_at, loop_at, idle, idle_loop}
use Rattle.cilk_program.specs.SerialRun.{cells_of, own_reducers}
use Rattle.cilk_lower.specs.declared.layout.FunctionLayout.{FunctionLayout}
use Rattle.cilk_lower.specs.declared.layout.Layout.{Layout}
use Rattle.cilk_lower.specs.Layout.{LaysOut, bare, cells_in, frame_of, function_frame, reducers_in}
use Rattle.cilk_lower.specs.Plain.{is_plain}

-- an item of a mapped list
found : {A B C : Type 0} (f : B → C) (g : A → B) (xs : List A) (k : ℕ) (d : B) → unwrap_or (slice_get (map (λ x. f (g x)) xs) k) (f d) ≡ f (unwrap_or (slice_get (map g xs) k) d)
found f g [] k d = refl
found f g (x ∷ xs) zero d = refl
found f g (x ∷ xs) (suc k) d = found f g xs k d

module _ (globals : List ℤ) (rs : List GlobalReducer) (fs : List declared_functions.Function) (ls : List declared_loops.Loop) (main : ℕ) (l : Layout)
    (functions : l.functions ≡ map (λ f. frame_of (function f)) fs) (loops : l.loops ≡ map (λ (x : declared_loops.Loop). x.cells) ls) where
  abbrev p : Source
  p = source_of globals rs fs ls main

  function_frame_is : (k : ℕ) → function_frame l k ≡ frame_of (function_at p k)
  function_frame_is k = ap (λ list. unwrap_or (slice_get list k) bare) functions ∙ found frame_of function fs k idle

  loop_cells_are : (k : ℕ) → unwrap_or (slice_get l.loops k) 0 ≡ (loop_at p k).cells
  loop_cells_are k = ap (λ list. unwrap_or (slice_get list k) 0) loops ∙ found (λ (x : Loop). x.cells) loop ls k idle_loop

  cells_are : l.main ≡ main → (callee : Callee) → cells_in l callee ≡ cells_of p callee
  cells_are same callees.Root = ap (λ k. (function_frame l k).cells) same ∙ ap (λ (f : FunctionLayout). f.cells) (function_frame_is main)
  cells_are same (callees.Function c) = ap (λ (f : FunctionLayout). f.cells) (function_frame_is c.function)
  cells_are same (callees.Loop part) = ap (λ n. if int_eq (part.high -ℤ part.low) (pos 1) then n else 0) (loop_cells_are part.number)

  own_are : l.main ≡ main → (callee : Callee) → reducers_in l callee ≡ own_reducers p callee
  own_are same callees.Root = ap (λ k. (function_frame l k).reducers) same ∙ ap (λ (f : FunctionLayout). f.reducers) (function_frame_is main)
  own_are same (callees.Function c) = ap (λ (f : FunctionLayout). f.reducers) (function_frame_is c.function)
  own_are same (callees.Loop part) = refl

  pub lays_out : l.openings ≡ globals → l.reducers ≡ map (λ (r : GlobalReducer). r.kind) rs → l.main ≡ main → l.plain ≡ is_plain p → LaysOut p l
  lays_out openings reducers same plain = record { openings = openings; reducers = reducers; cells = cells_are same; own = own_are same; plain = plain }
