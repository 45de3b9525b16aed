-- The steps of the free machine on the language, and the outcome of a state.
use Rattle.std.specs.Prelude.{◌≡◌, ℕ, suc, ℤ, pos, List, [], ◌∷◌, length}
use Rattle.cilk_types.specs.declared.outcome.Final.{Final}
use Rattle.cilk_types.specs.declared.outcome.Outcome.{Outcome}
use Rattle.cilk_monoid.specs.declared.kind.MonoidKind.{MonoidKind}
use Rattle.cilk_monoid.specs.declared.kind.MonoidKind.TheVariants.{Append}
use Rattle.cilk_monoid.specs.Kinds.{final_of}
use Rattle.cilk_program.specs.Outcomes.{cells_from}
use Rattle.cilk_program.specs.Syntax.{Source}
use Rattle.cilk_determinacy.specs.Runs.{Name, Ask, Global, Instance, Output, Reads, Writes, Syncs, Ends, Passes, Deed, Does, Invokes}
use Rattle.cilk_determinacy.specs.Machine.{State, deeds_at, Step, Steps, IsOpening}
use Rattle.cilk_determinacy.specs.Progress.{HasProgress}
use Rattle.cilk_determinacy.specs.MachineTheorem.{follows}
use Rattle.cilk_determinacy.specs.Reducers.{View, value_of, monoid_of, elements_of}
use Rattle.cilk_determinacy.specs.FrameEnvs.{FrameEnv, first_env, global_named}
use Rattle.cilk_determinacy.specs.FrameEnvMachine.{next, costs, opening_values}

-- the result that a frame's end gave
abbrev pub result_in : List (Deed FrameEnv) → ℤ
result_in [] = pos 0
result_in (Does (Reads c v) ∷ ds) = result_in ds
result_in (Does (Writes c v) ∷ ds) = result_in ds
result_in (Does Syncs ∷ ds) = result_in ds
result_in (Does (Ends v gone) ∷ ds) = v
result_in (Does (Passes m) ∷ ds) = result_in ds
result_in (Invokes k w ∷ ds) = result_in ds

-- the last values of the global reducers with these monoids, counted from n
abbrev pub finals_in : (Instance → View) → ℕ → List MonoidKind → List Final
finals_in views n [] = []
finals_in views n (k ∷ ks) = final_of (value_of k (views (global_named n k))) ∷ finals_in views (suc n) ks

-- the outcome of a state whose first frame has ended
abbrev pub outcome_in : Source → State FrameEnv View → Outcome
outcome_in p s = record {
  result = result_in (deeds_at (s.frames []));
  globals = cells_from 0 (length p.openings) (λ n. s.memory (Global n));
  output = elements_of (value_of Append (s.piece [] Output));
  reducers = finals_in (s.piece []) 0 p.reducers;
}

module _ (p : Source) (inputs : List ℤ) where
  -- a frame's next ask
  abbrev pub Next : FrameEnv → List (Deed FrameEnv) → Ask FrameEnv → Type 0
  Next = follows (next p inputs)

  abbrev pub IsFirst : State FrameEnv View → Type 0
  IsFirst s = IsOpening FrameEnv View monoid_of Next (costs p inputs) (first_env p) (opening_values p inputs) s

  abbrev pub OneStep : State FrameEnv View → Name → State FrameEnv View → Type 0
  OneStep s n s' = Step FrameEnv View monoid_of Next (costs p inputs) s n s'

  -- steps of these frames lead from the opening state to this one
  abbrev pub Reaches : List Name → State FrameEnv View → Type 0
  Reaches ns s' = (s : State FrameEnv View) × IsFirst s × Steps FrameEnv View monoid_of Next (costs p inputs) ns s s'

  -- the machine makes the steps of the program's behaviour
  abbrev pub MachineHasProgress : Type 0
  MachineHasProgress = HasProgress FrameEnv View monoid_of Next (costs p inputs)
