-- The children that a `sync` awaits.
use Rattle.std.specs.Prelude.{◌≡◌, ℕ, ◌+◌, ℤ, IsTrue, List, Some}
use Rattle.cilk_types.specs.declared.event.Event.{Event}
use Rattle.cilk_types.specs.declared.event.Event.TheVariants.{Sync}
use Rattle.cilk_types.specs.declared.outcome.Outcome.{Outcome}
use Rattle.cilk_program.specs.Outcomes.{Leaves}
use Rattle.cilk_program.specs.SerialRun.{Transcript, IsSerialRun}
use Rattle.cilk_program.specs.Syntax.{Source}
use Rattle.cilk_program.specs.WellNamed.{is_well_named}
use Rattle.cilk_tree.specs.Columns.{IsSpawnOf}
use Rattle.cilk_tree.specs.Planned.{planned}
use Rattle.cilk_tree.specs.Reach.{Among}
use Rattle.cilk_tree.specs.declared.event_order.EventOrder.{EventOrder}
use Rattle.cilk_tree.specs.Word.{event, predecessors_of, resume, word_step}

-- the block of the spawn at k ends with the `sync` at q, and the spawned child with its `end` at e,
-- right before the `resume` after the spawn
pub record IsEndOf (s : EventOrder) (q k e : ℕ) : Type 0 where
  pub spawned : IsSpawnOf s q k
  pub resumes : word_step s (e + 1) ≡ resume k

-- The immediate predecessors of a `sync` are the event right before it and `end`s of children that
-- are spawned in its block.
abbrev pub SyncsAwaitSpawns : EventOrder → Type 0
SyncsAwaitSpawns s = (q e : ℕ) → event s q ≡ Some Sync → Among e (predecessors_of s q) → (e + 1 ≡ q → ⊥) → (k : ℕ) × IsEndOf s q k e

-- That holds in the plan of each serial run.
abbrev pub SerialSyncsAwaitSpawns : Type 0
SerialSyncsAwaitSpawns =
    (p : Source) (inputs : List ℤ) (r : Transcript) (es : List Event) (outcome : Outcome) (opening : List ℤ) → IsTrue (is_well_named p)
    → IsSerialRun p inputs r es (Leaves outcome) → SyncsAwaitSpawns (planned es opening)
