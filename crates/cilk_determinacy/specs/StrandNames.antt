-- The names of strands, which no schedule changes, in a serial run.
use Rattle.std.specs.Prelude.{◌≡◌, ◌-◌, ℕ, suc, ℤ, IsTrue, cond, List, [], ◌∷◌, ◌++◌, length, Some, slice_get}
use Rattle.cilk_types.specs.declared.event.Event as numbers
use Rattle.cilk_types.specs.declared.outcome.Outcome.{Outcome}
use Rattle.cilk_program.specs.Outcomes.{Leaves}
use Rattle.cilk_program.specs.SerialRun as serial
use Rattle.cilk_program.specs.Syntax.{Source}
use Rattle.cilk_program.specs.WellNamed.{is_well_named}
use Rattle.cilk_determinacy.specs.Machine.{begins_strand}
use Rattle.cilk_determinacy.specs.Runs.{Name, Run, stop, act, child}
use Rattle.cilk_tree.specs.Before.{IsPosition}
use Rattle.cilk_tree.specs.Races.{strand_at}
use Rattle.cilk_determinacy.specs.FrameEnvs.{FrameEnv}
use Rattle.cilk_determinacy.specs.Nested.{named}

-- a strand's name: its frame's name, and its place among the frame's strands, from 1
pub record StrandName : Type 0 where
  pub frame : Name
  pub place : ℕ

abbrev pub strand : Name → ℕ → StrandName
strand n k = record { frame = n; place = k }

-- the strands that begin in the rest of frame n's run, after k of its own, in serial order
abbrev pub strands_from : Name → ℕ → Run FrameEnv → List StrandName
strands_from n k stop = []
strands_from n k (act e t) =
    cond (begins_strand e) (strand n (suc k) ∷ []) [] ++ strands_from n (cond (begins_strand e) (suc k) k) t
strands_from n k (child i w u t) = strands_from w.name 0 u ++ strands_from n k t

-- the strand of each event there, in serial order
abbrev pub strand_of_each : Name → ℕ → Run FrameEnv → List StrandName
strand_of_each n k stop = []
strand_of_each n k (act e t) = strand n (cond (begins_strand e) (suc k) k) ∷ strand_of_each n (cond (begins_strand e) (suc k) k) t
strand_of_each n k (child i w u t) = strand n k ∷ (strand_of_each w.name 0 u ++ strand_of_each n k t)

module _ (p : Source) (r : serial.Transcript) where
  -- the names of the run's strands, in the order of their numbers from 1
  abbrev pub strand_names : List StrandName
  strand_names = strands_from [] 0 (named p r)

  -- The strands of the list are named one to one, and each event is in the strand that its frame
  -- names.
  pub record AreStrandsNamed (es : List numbers.Event) : Type 0 where
    pub many : strand_at es (length es) ≡ length strand_names
    pub apart : (j j' : ℕ) (x : StrandName) → slice_get strand_names j ≡ Some x → slice_get strand_names j' ≡ Some x → j ≡ j'
    pub at : (q : ℕ) → IsPosition es q
        → (j : ℕ) × (x : StrandName) × (strand_at es q ≡ suc j) × (slice_get strand_names j ≡ Some x) × (slice_get (strand_of_each [] 0 (named p r)) (q - 1) ≡ Some x)

abbrev pub StrandsHaveNames : Source → List ℤ → Type 0
StrandsHaveNames p inputs =
    (r : serial.Transcript) (es : List numbers.Event) (outcome : Outcome) → IsTrue (is_well_named p) → serial.IsSerialRun p inputs r es (Leaves outcome) → AreStrandsNamed p r es
