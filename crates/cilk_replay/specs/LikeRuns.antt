-- Runs of a program on several inputs that do the same deeds, but for their values.
use Rattle.std.specs.Prelude.{◌≡◌, ℤ, Bool, true, List}
use Rattle.cilk_types.specs.declared.event.Event as numbers
use Rattle.cilk_types.specs.declared.outcome.Outcome.{Outcome}
use Rattle.cilk_program.specs.Outcomes.{Leaves}
use Rattle.cilk_program.specs.SerialRun.{Transcript, IsSerialRun}
use Rattle.cilk_program.specs.Syntax.{Source}
use Rattle.cilk_tree.specs.Along.{DepartsNowhere}
use Rattle.cilk_tree.specs.Orders.{IsOrderly}
use Rattle.cilk_tree.specs.Planned.{planned}
use Rattle.cilk_determinacy.specs.Runs.{Run}
use Rattle.cilk_determinacy.specs.Runs as runs
use Rattle.cilk_determinacy.specs.Nested.{named}
use Rattle.cilk_determinacy.specs.Words.{InputsAreWords}
use Rattle.cilk_replay.specs.InputCourses.{IsLike}
use Rattle.cilk_replay.specs.Frames.{same_frame}
use Rattle.cilk_replay.specs.EventOrders.{event_order_on, IsPlannedRun}

-- The same deeds but for values: events of one kind and of one cell or reducer, and children that
-- are started in one way and run one function or one loop.
abbrev pub IsLikeRun : {W : Type 0} → (W → W → Bool) → Run W → Run W → Type 0
IsLikeRun same runs.stop runs.stop = Unit {0}
IsLikeRun same (runs.act e r) (runs.act x s) = IsLike e x × IsLikeRun same r s
IsLikeRun same (runs.child k v u r) (runs.child j y d s) = (k ≡ j) × (same v y ≡ true) × IsLikeRun same u d × IsLikeRun same r s
IsLikeRun same _ _ = ⊥

-- On an input on which a serial run without a fault is like the planned one, the event order departs
-- nowhere. Equal kinds of events aren't enough: they don't say which function a call runs.
abbrev pub LikeRunsDepartNowhere : Type 0
LikeRunsDepartNowhere =
    (p : Source) (inputs others : List ℤ) (r : Transcript) (es : List numbers.Event) (opening : List ℤ) → IsPlannedRun p inputs r es opening → InputsAreWords others
    → (r' : Transcript) (es' : List numbers.Event) (outcome : Outcome) → IsSerialRun p others r' es' (Leaves outcome)
    → IsLikeRun (same_frame p) (named p r) (named p r') → DepartsNowhere (event_order_on p others r es opening)

-- Nor is less enough, along an orderly plan: where an input departs nowhere, each serial run on it
-- without a fault is like the planned one.
abbrev pub RunsAlongAreLike : Type 0
RunsAlongAreLike =
    (p : Source) (inputs others : List ℤ) (r : Transcript) (es : List numbers.Event) (opening : List ℤ) → IsPlannedRun p inputs r es opening → InputsAreWords others
    → IsOrderly (planned es opening) → DepartsNowhere (event_order_on p others r es opening)
    → (r' : Transcript) (es' : List numbers.Event) (outcome : Outcome) → IsSerialRun p others r' es' (Leaves outcome) → IsLikeRun (same_frame p) (named p r) (named p r')
