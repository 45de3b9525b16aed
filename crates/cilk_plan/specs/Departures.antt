-- The inputs on which an accepted run departs nowhere.
use Rattle.std.specs.Prelude.{ℕ, ℤ, Bool, List}
use Rattle.cilk_tree.specs.Along.{DepartsNowhere}
use Rattle.cilk_tree.specs.declared.event_order.EventOrder.{EventOrder}
use Rattle.cilk_program.specs.Outcomes.{Leaves}
use Rattle.cilk_program.specs.Sources.{source}
use Rattle.cilk_determinacy.specs.Words.{InputsAreWords}
use Rattle.cilk_oblivious.specs.Open.{IsObliviousRun}
use Rattle.cilk_oblivious.specs.Pairs.{InputsAreAlike}
use Rattle.cilk_checker.specs.Determinate.{AcceptedRun}
use Rattle.cilk_plan.specs.Plans.{IsEventOrderOn}

-- no hidden number of its input decides the accepted run
abbrev pub RunIsOblivious : AcceptedRun → (ℕ → Bool) → Type 0
RunIsOblivious a hidden = IsObliviousRun (source a.program) a.input hidden a.trace (Leaves a.outcome)

-- Then the event order that the program makes of its plan departs nowhere, on each input that differs
-- from its own in hidden numbers alone.
abbrev pub ObliviousRunsDepartNowhere : Type 0
ObliviousRunsDepartNowhere =
    (a : AcceptedRun) (hidden : ℕ → Bool) → RunIsOblivious a hidden
    → (others : List ℤ) → InputsAreWords others → InputsAreAlike hidden a.input others
    → (opening : List ℤ) (s : EventOrder) → IsEventOrderOn a opening others s → DepartsNowhere s
