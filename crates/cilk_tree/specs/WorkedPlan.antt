-- A small run that has a plan.
use Rattle.std.specs.Prelude.{◌≡◌, List, [], ◌∷◌, pos}
use Rattle.cilk_types.specs.declared.event.Event.{Event}
use Rattle.cilk_types.specs.declared.event.Event.TheVariants.{Begin, Spawn, Resume, Sync, End, Read, Write}
use Rattle.cilk_tree.specs.Passes.{predecessors_in}
use Rattle.cilk_tree.specs.Planned.{HasPlan}

-- A global is written; then a spawned function and its parent read it.
abbrev pub two_reads : List Event
two_reads =
    Begin 1 ∷ Write 0 (pos 7) ∷ Spawn 2 ∷ Begin 2 ∷ Read 0 (pos 7) ∷ Sync ∷ End ∷ Resume 1 ∷ Read 0 (pos 7) ∷ Sync ∷ Sync ∷ End ∷ []

abbrev pub TwoReadsHavePlan : Type 0
TwoReadsHavePlan = HasPlan two_reads (pos 0 ∷ [])

-- the `resume` at 8 has the spawn at 3, the `sync` at 10 also has the child's `end` at 7
abbrev pub TwoReadsPredecessors : Type 0
TwoReadsPredecessors =
    predecessors_in two_reads
    ≡ [] ∷ (1 ∷ []) ∷ (2 ∷ []) ∷ (3 ∷ []) ∷ (4 ∷ []) ∷ (5 ∷ []) ∷ (6 ∷ []) ∷ (3 ∷ []) ∷ (8 ∷ []) ∷ (9 ∷ 7 ∷ []) ∷ (10 ∷ []) ∷ (11 ∷ []) ∷ []
