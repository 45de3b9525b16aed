-- The table of an accepted run's reducers.
use Rattle.std.specs.Prelude.{◌≡◌, []}
use Rattle.cilk_program.specs.declared.program.Body.{Body}
use Rattle.cilk_program.specs.declared.program.Body.TheVariants.{Function, Loop}
use Rattle.cilk_program.specs.Outcomes.{Leaves}
use Rattle.cilk_program.specs.SerialRun.{Transcript, IsSerialRun}
use Rattle.cilk_program.specs.Sources.{source}
use Rattle.cilk_program.specs.Syntax.{Source, function_at}
use Rattle.cilk_tree.specs.declared.event_order.EventOrder.{EventOrder}
use Rattle.cilk_tree.specs.Along.{IsAlong}
use Rattle.cilk_shared.specs.declared.reducers.FrameReducers.{FrameReducers}
use Rattle.cilk_shared.specs.declared.reducers.Reducers.{Reducers}
use Rattle.cilk_shared.specs.Reducers.{events_at}
use Rattle.cilk_shared.specs.Settled.{AreSettled}
use Rattle.cilk_checker.specs.Determinate.{AcceptedRun}
use Rattle.cilk_plan.specs.Plans.{IsPlanOf}
use Rattle.cilk_threads.specs.Tables.{AreReducersOf, HaveTheirKinds}

-- The table is that of an accepted run, and the run's reducers are settled along its plan on any
-- input.
pub record IsTableOf (a : AcceptedRun) (r : Reducers) : Type 0 where
  pub frames : (run : Transcript) → IsSerialRun (source a.program) a.input run a.trace (Leaves a.outcome) → AreReducersOf (source a.program) run r
  pub kinds : (run : Transcript) → IsSerialRun (source a.program) a.input run a.trace (Leaves a.outcome) → HaveTheirKinds (source a.program) run r
  pub settled : (plan s : EventOrder) → IsPlanOf a plan → IsAlong plan s → AreSettled s r
  -- the first event is of no reducer
  pub quiet : (plan s : EventOrder) → IsPlanOf a plan → IsAlong plan s → events_at s r 1 ≡ []

-- the reducers of a frame with this body, except the root's frame
abbrev pub reducers_in : Source → Body → FrameReducers
reducers_in p (Function n) = let f = function_at p n in record { kinds = f.reducers; outlive = 0 }
reducers_in p (Loop n) = record { kinds = []; outlive = 0 }
