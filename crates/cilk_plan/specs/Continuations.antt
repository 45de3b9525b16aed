-- The continuations of a serial run's spawns.
use Rattle.std.specs.Prelude.{◌≡◌, ℕ, ℤ, IsTrue, List, Some}
use Rattle.cilk_types.specs.declared.event.Event.{Event}
use Rattle.cilk_types.specs.declared.event.Event.TheVariants.{Spawn}
use Rattle.cilk_types.specs.declared.outcome.Outcome.{Outcome}
use Rattle.cilk_program.specs.Outcomes.{Leaves}
use Rattle.cilk_program.specs.SerialRun.{Transcript, IsSerialRun}
use Rattle.cilk_program.specs.Syntax.{Source}
use Rattle.cilk_program.specs.WellNamed.{is_well_named}
use Rattle.cilk_tree.specs.Races.{event_at}
use Rattle.cilk_tree.specs.declared.event_order.EventOrder.{EventOrder}
use Rattle.cilk_tree.specs.Orders.{IsOrderly}
use Rattle.cilk_tree.specs.Word.{spawn, word_step}
use Rattle.cilk_tree.specs.declared.blocks.Continuation.{Continuation}
use Rattle.cilk_tree.specs.Blocks.{EndsBlockOf, IsContinuationOf}
use Rattle.cilk_checker.specs.Determinate.{AcceptedRun, HasDeterminateRun}
use Rattle.cilk_plan.specs.Plans.{IsPlanOf}

-- Among a serial run's events, the block of each spawn ends with a `sync` of its frame.
abbrev pub BlocksOfSpawnsEnd : Type 0
BlocksOfSpawnsEnd =
    (p : Source) (inputs : List ℤ) (r : Transcript) (es : List Event) (outcome : Outcome) → IsTrue (is_well_named p)
    → IsSerialRun p inputs r es (Leaves outcome) → (k child : ℕ) → event_at es k ≡ Some (Spawn child) → (q : ℕ) × EndsBlockOf es k q

-- the spawn at k has one continuation
pub record HasContinuation (s : EventOrder) (k : ℕ) : Type 0 where
  pub continuation : Continuation
  pub is : IsContinuationOf s k continuation
  pub one : (c : Continuation) → IsContinuationOf s k c → c ≡ continuation

-- each spawn of an event order has one continuation
abbrev pub SpawnsHaveContinuations : EventOrder → Type 0
SpawnsHaveContinuations s = (k : ℕ) → word_step s k ≡ spawn → HasContinuation s k

-- In the plan of an accepted run, each spawn has one continuation.
abbrev pub PlansHaveContinuations : Type 0
PlansHaveContinuations = (a : AcceptedRun) (s : EventOrder) → HasDeterminateRun a → IsPlanOf a s → IsOrderly s → SpawnsHaveContinuations s
