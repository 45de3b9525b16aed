-- Consistent cuts by positions of the serial run: which events are made, and that these are closed
-- under "before".
use Rattle.std.specs.Prelude.{◌≡◌, ℕ, suc, ◌-◌, Bool, true, false, List, [], ◌∷◌, ◌++◌, length, Some, slice_get}
use Rattle.cilk_types.specs.declared.event.Event.{Event}
use Rattle.cilk_types.specs.declared.event.Instance as numbered
use Rattle.cilk_tree.specs.Before.{IsPosition, IsBefore}
use Rattle.cilk_tree.specs.Tree.{Tree, tree}
use Rattle.cilk_determinacy.specs.Runs.{Cell, Instance, Deed, Run, stop, act, child}
use Rattle.cilk_determinacy.specs.Machine.{Frames, deeds_at}
use Rattle.cilk_determinacy.specs.Traces.{trace, shape_of, begin_due, IsFramed, AreWritten}
use Rattle.cilk_determinacy.specs.Cuts.{below, IsCut}

-- no event of the run is made
abbrev pub unmade : {W : Type 0} → Run W → List Bool
unmade stop = []
unmade (act e r) = false ∷ unmade r
unmade (child b w u r) = false ∷ (unmade u ++ unmade r)

-- whether each event of the run is made, in serial order
abbrev pub made_at : {W : Type 0} → Run W → ℕ → List (Deed W) → (ℕ → Frames W) → List Bool
made_at stop k ds kids = []
made_at (act e r) k [] kids = false ∷ unmade r
made_at (act e r) k (d ∷ ds) kids = true ∷ made_at r k ds kids
made_at (child b w u r) k [] kids = false ∷ (unmade u ++ unmade r)
made_at (child b w u r) k (d ∷ ds) kids = true ∷ (made_at u 1 (deeds_at (kids k [])) (below (kids k)) ++ made_at r (suc k) ds kids)

-- the event at this position, from 1, is made
abbrev pub IsMade : List Bool → ℕ → Type 0
IsMade marks p = slice_get marks (p - 1) ≡ Some true

-- each event of the list is made or not, and if an event is made, each event before it in the tree
-- is made
pub record IsClosedBefore (es : List Event) (t : Tree) (marks : List Bool) : Type 0 where
  pub whole : length marks ≡ length es
  pub closed : (p q : ℕ) → IsPosition es p → IsPosition es q → IsBefore t es p q → IsMade marks q → IsMade marks p

-- this holds of each cut, with any list of the run's events by numbers
abbrev pub CutsAreClosed : (W : Type 0) → Type 0
CutsAreClosed W = (cell : Cell → ℕ) (instance : Instance → numbered.Instance) (t : Run W) (es : List Event) (deeds : List (Deed W)) (kids : ℕ → Frames W)
    → IsFramed begin_due t → AreWritten cell instance (trace t) es → IsCut t 1 deeds kids → IsClosedBefore es (tree (shape_of t)) (made_at t 1 deeds kids)
