-- The values of reducers in the event orders along a plan.
use Rattle.std.specs.Prelude.{◌≡◌, ℕ, ℤ, List, Some}
use Rattle.cilk_types.specs.declared.event.Event.{Event}
use Rattle.cilk_types.specs.declared.event.Event.TheVariants.{Value}
use Rattle.cilk_types.specs.declared.event.Instance.{Instance}
use Rattle.cilk_program.specs.SerialRun.{Transcript}
use Rattle.cilk_program.specs.Syntax.{Source}
use Rattle.cilk_tree.specs.declared.event_order.EventOrder.{EventOrder}
use Rattle.cilk_tree.specs.Runs.{IsAsked}
use Rattle.cilk_tree.specs.Word.{event}
use Rattle.cilk_shared.specs.declared.reducers.Reducers.{Reducers}
use Rattle.cilk_shared.specs.Numbers.{HasNumbers, IsNumberAt}
use Rattle.cilk_determinacy.specs.Words.{InputsAreWords}
use Rattle.cilk_replay.specs.EventOrders.{event_order_on, IsPlannedRun}
use Rattle.cilk_checker.specs.Determinate.{AcceptedRun, HasDeterminateRun}
use Rattle.cilk_plan.specs.Plans.{IsEventOrderOn}
use Rattle.cilk_threads.specs.Accepted.{IsTableOf}
use Rattle.cilk_threads.specs.Tables.{AreReducersOf}

-- if its event is requested, a value is the number of its reducer's view over the events before it
abbrev pub HasAskedNumbers : EventOrder → Reducers → Type 0
HasAskedNumbers s r = (p : ℕ) (i : Instance) (v : ℤ) → IsAsked s p → event s p ≡ Some (Value i v) → IsNumberAt s r p i v

-- This holds on all inputs of words, in the event order along the plan of a serial run.
abbrev pub EventOrdersAlongHaveNumbers : Type 0
EventOrdersAlongHaveNumbers =
    (p : Source) (inputs others : List ℤ) (run : Transcript) (es : List Event) (opening : List ℤ) (r : Reducers)
    → IsPlannedRun p inputs run es opening → InputsAreWords others → AreReducersOf p run r → HasAskedNumbers (event_order_on p others run es opening) r

-- This holds along the plan of an accepted run.
abbrev pub AcceptedEventOrdersHaveNumbers : Type 0
AcceptedEventOrdersHaveNumbers =
    (a : AcceptedRun) (opening inputs : List ℤ) (s : EventOrder) (r : Reducers) → HasDeterminateRun a → IsTableOf a r → InputsAreWords inputs
    → IsEventOrderOn a opening inputs s → HasNumbers s r
