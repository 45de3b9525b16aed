-- The outcome of a run, by its cells and views, is that of the free machine's state.
--
-- - `globals_same`, `output_same`, `finals_same`: global cells, the output, last values of global
--   reducers;
-- - `left_is`: the outcome.
use Rattle.std.proofs.Common.{◌≡◌, ◌+◌, ◌<◌, ℕ, zero, suc, ℤ, List, [], ◌∷◌, length, take, slice_get, Option, Some, None, refl, sym, ap, ap₂, ◌∙◌, arith}
use Rattle.std.specs.Option.{option_map}
use Rattle.cilk_types.specs.declared.outcome.Final.{Final}
use Rattle.cilk_types.specs.declared.outcome.Outcome.{Outcome}
use Rattle.cilk_monoid.specs.declared.kind.MonoidKind.{MonoidKind}
use Rattle.cilk_monoid.specs.declared.kind.MonoidKind.TheVariants.{Append}
use Rattle.cilk_monoid.specs.Kinds.{IsList, final_of, structure_of}
use Rattle.cilk_monoid.specs.Values.{ViewValue, Number, Elements, Map}
use Rattle.cilk_program.specs.Outcomes.{cells_from}
use Rattle.cilk_program.specs.SerialRun.{global_reducer}
use Rattle.cilk_program.specs.Syntax.{Source}
use Rattle.cilk_lower.specs.Layout.{LaysOut}
use Rattle.cilk_lower.specs.declared.layout.Layout.{Layout}
use Rattle.cilk_hypermap.specs.Hypermap.{view_in, value_in}
use Rattle.cilk_hypermap.specs.Views.{or_unit, output}
use Rattle.cilk_hypermap.specs.declared.hypermap.Hypermap.{Hypermap}
use Rattle.cilk_determinacy.specs.Machine.{State, deeds_at}
use Rattle.cilk_determinacy.specs.Runs.{Global, Instance, Output}
use Rattle.cilk_determinacy.specs.Reducers.{View, elements_of, value_of}
use Rattle.cilk_determinacy.specs.Steps.{finals_in, outcome_in, result_in}
use Rattle.cilk_determinacy.specs.FrameEnvViews.{IsViewOf}
use Rattle.cilk_determinacy.specs.FrameEnvs.{FrameEnv, global_named}
use Rattle.cilk_determinacy.proofs.FrameEnvViews.{are_multiplied}
use Rattle.cilk_frames.specs.Leaving.{finals_of, numbers_in, outcome_of}

globals_same : (n from : ℕ) (cells : List ℤ) (f : ℕ → ℤ) → ((q : ℕ) → q < n → slice_get cells q ≡ Some (f (from + q))) → take n cells ≡ cells_from from n f
globals_same zero from cells f each = refl
globals_same (suc n) from [] f each = let no : None ≡ Some (f (from + 0)) = each 0 (omega arith) in let z : ⊥ = cc in absurd z
globals_same (suc n) from (x ∷ cells) f each =
    let one : Some x ≡ Some (f (from + 0)) = each 0 (omega arith) in
    let e : from + 0 ≡ from = omega arith in
    let same : x ≡ f (from + 0) = cc in
    ap₂ (λ a l. a ∷ l) (same ∙ ap f e)
    (globals_same n (suc from) cells f (λ q lt. each (suc q) (omega (arith, lt)) ∙ (let g : from + suc q ≡ suc from + q = omega arith in ap (λ z. Some (f z)) g)))

output_same : (o : Option ViewValue) → IsList (or_unit (structure_of Append) o) → numbers_in (option_map final_of o) ≡ elements_of (or_unit (structure_of Append) o)
output_same None h = refl
output_same (Some (Elements zs)) h = refl
output_same (Some (Number z)) h = absurd h
output_same (Some (Map a b)) h = absurd h

module _ (views : Hypermap) (piece : Instance → View) (each : (n : ℕ) (k : MonoidKind) → IsViewOf k (piece (global_named n k)) (value_in views k (global_reducer n))) where
  finals_same : (n : ℕ) (ks : List MonoidKind) → finals_of views n ks ≡ finals_in piece n ks
  finals_same n [] = refl
  finals_same n (k ∷ ks) = ap₂ (λ x l. final_of x ∷ l) (let m = are_multiplied in sym (m.value k (piece (global_named n k)) (value_in views k (global_reducer n)) (each n k))) (finals_same (suc n) ks)

  pub left_is : (p : Source) (l : Layout) (cells : List ℤ) (v : ℤ) (s : State FrameEnv View) → LaysOut p l → ((i : Instance) → s.piece [] i ≡ piece i) → result_in (deeds_at (s.frames [])) ≡ v
      → ((n : ℕ) → n < length p.openings → slice_get cells n ≡ Some (s.memory (Global n))) → IsViewOf Append (piece Output) (value_in views Append output) → outcome_of l cells views v ≡ outcome_in p s
  left_is p l cells v s lays same result memory printed =
      let m = are_multiplied in
      let R : ℤ → List ℤ → List ℤ → List Final → Outcome = (λ a b c d. record { result = a; globals = b; output = c; reducers = d }) in
      let first : take (length l.openings) cells ≡ cells_from 0 (length p.openings) (λ n. s.memory (Global n)) =
      ap (λ (os : List ℤ). take (length os) cells) lays.openings ∙ globals_same (length p.openings) 0 cells (λ n. s.memory (Global n)) (λ q lt. memory q lt ∙ (let e : q ≡ 0 + q = omega arith in ap (λ z. Some (s.memory (Global z))) e)) in
      let second : numbers_in (option_map final_of (view_in views Append output)) ≡ elements_of (value_of Append (s.piece [] Output)) =
      output_same (view_in views Append output) printed.member ∙ ap elements_of (sym (m.value Append (piece Output) (value_in views Append output) printed)) ∙ ap (λ x. elements_of (value_of Append x)) (sym (same Output)) in
      let third : finals_of views 0 l.reducers ≡ finals_in (s.piece []) 0 p.reducers = ap (λ ks. finals_of views 0 ks) lays.reducers ∙ finals_same 0 p.reducers ∙ finals_by 0 p.reducers in
      ap₂ (λ a b. R a b (numbers_in (option_map final_of (view_in views Append output))) (finals_of views 0 l.reducers)) (sym result) first ∙ ap₂ (λ c d. R (result_in (deeds_at (s.frames []))) (cells_from 0 (length p.openings) (λ n. s.memory (Global n))) c d) second third
    where
      finals_by : (n : ℕ) (ks : List MonoidKind) → finals_in piece n ks ≡ finals_in (s.piece []) n ks
      finals_by n [] = refl
      finals_by n (k ∷ ks) = ap₂ (λ x t. final_of (value_of k x) ∷ t) (sym (same (global_named n k))) (finals_by (suc n) ks)
