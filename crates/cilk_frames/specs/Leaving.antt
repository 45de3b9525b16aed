-- The outcome of a run, given its cells and views.
use Rattle.std.specs.Prelude.{◌≡◌, ℕ, suc, false, ℤ, List, [], ◌∷◌, length, take, Option, Some, None}
use Rattle.std.specs.Option.{option_map}
use Rattle.cilk_types.specs.declared.event.Instance.{Instance}
use Rattle.cilk_types.specs.declared.outcome.Final.{Final}
use Rattle.cilk_types.specs.declared.outcome.Final.TheVariants as finals
use Rattle.cilk_types.specs.declared.outcome.Outcome.{Outcome}
use Rattle.cilk_monoid.specs.declared.kind.MonoidKind.{MonoidKind}
use Rattle.cilk_monoid.specs.declared.kind.MonoidKind.TheVariants.{Append}
use Rattle.cilk_monoid.specs.Kinds.{final_of}
use Rattle.cilk_monoid.specs.Ranges.{same_instance}
use Rattle.cilk_hypermap.specs.Hypermap.{view_in, value_in}
use Rattle.cilk_hypermap.specs.Views.{output}
use Rattle.cilk_hypermap.specs.declared.hypermap.Hypermap.{Hypermap}
use Rattle.cilk_lower.specs.declared.layout.Layout.{Layout}
use Rattle.cilk_program.specs.SerialRun.{global_reducer}

-- the values of all other reducers are unchanged
abbrev pub KeepsOthers : Hypermap → Hypermap → Instance → Type 0
KeepsOthers old new i = (k : MonoidKind) (j : Instance) → same_instance i j ≡ false → value_in new k j ≡ value_in old k j

-- the numbers of a list, if the value is one
abbrev pub numbers_in : Option Final → List ℤ
numbers_in None = []
numbers_in (Some (finals.Number z)) = []
numbers_in (Some (finals.List zs)) = zs

-- the last values of the global reducers with these monoids, from the n-th on
abbrev pub finals_of : Hypermap → ℕ → List MonoidKind → List Final
finals_of h n [] = []
finals_of h n (k ∷ ks) = final_of (value_in h k (global_reducer n)) ∷ finals_of h (suc n) ks

-- the outcome of a run with these cells and views
abbrev pub outcome_of : Layout → List ℤ → Hypermap → ℤ → Outcome
outcome_of l cells views value = record {
  result = value;
  globals = take (length l.openings) cells;
  output = numbers_in (option_map final_of (view_in views Append output));
  reducers = finals_of views 0 l.reducers;
}
