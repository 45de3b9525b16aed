-- The plan of an accepted run.
use Rattle.std.specs.Prelude.{◌≡◌, ℕ, ◌<◌, ℤ, ◌≤◌, pos, List, length, Some, slice_get, slice_index_or, refl}
use Rattle.cilk_types.specs.declared.event.Event.{Event}
use Rattle.cilk_types.specs.declared.event.Event.TheVariants.{Read, Write}
use Rattle.cilk_program.specs.SerialRun.{Transcript}
use Rattle.cilk_program.specs.Sources.{source}
use Rattle.cilk_program.specs.Answered.{opening_cells}
use Rattle.cilk_tree.specs.Before.{IsPosition}
use Rattle.cilk_checker.specs.Determinate.{AcceptedRun, run_code}
use Rattle.cilk_tree.specs.contracts.event_order.EventOrder as event_order
use Rattle.std.specs.Coded.{Coded, code_by, coded×}
use Rattle.cilk_tree.specs.declared.event_order.EventOrder.{EventOrder}
use Rattle.cilk_tree.specs.Runs.{IsAsked}
use Rattle.cilk_tree.specs.Planned.{planned}
use Rattle.cilk_replay.specs.EventOrders.{event_order_on, IsPlannedRun}

-- an accepted run, and its event order
pub record WholePlan : Type 0 where
  pub run : AcceptedRun
  pub event_order : EventOrder

-- its code is the pair of both
abbrev pub whole_code : Coded WholePlan
whole_code = code_by (AcceptedRun × EventOrder) (coded× run_code event_order.the_row.coded) (λ v. (v.run, v.event_order)) (λ t. record { run = t.0; event_order = t.1 }) (λ v. refl)

-- the cell that an event reads or writes is below n
abbrev pub Names : ℕ → Event → Type 0
Names n (Read c v) = c < n
Names n (Write c v) = c < n
Names n _ = Unit {0}

-- the cells that events read or write are below n
abbrev pub AllNamed : ℕ → List Event → Type 0
AllNamed n es = (k : ℕ) (e : Event) → slice_get es k ≡ Some e → Names n e

-- the event order is that of the accepted run
pub record IsPlanOf (a : AcceptedRun) (s : EventOrder) : Type 0 where
  pub event_order : s ≡ planned a.trace s.opening
  -- the cells are the globals and all that the run names, and open as the program's do
  pub globals : length (source a.program).openings ≤ length s.opening
  pub cells : AllNamed (length s.opening) a.trace
  pub opens : (c : ℕ) → slice_index_or s.opening c (pos 0) ≡ opening_cells (source a.program) a.input c
  -- each event is requested
  pub asked : (p : ℕ) → IsPosition a.trace p → IsAsked s p

-- the event order is what the program makes, on these inputs, of the plan of its accepted run,
-- whose cells have these opening values
pub record IsEventOrderOn (a : AcceptedRun) (opening inputs : List ℤ) (s : EventOrder) : Type 0 where
  pub run : Transcript
  pub of_run : IsPlannedRun (source a.program) a.input run a.trace opening
  pub is : s ≡ event_order_on (source a.program) inputs run a.trace opening

-- there is such an event order
abbrev pub HasEventOrderOn : AcceptedRun → List ℤ → List ℤ → Type 0
HasEventOrderOn a opening inputs = (s : EventOrder) × IsEventOrderOn a opening inputs s
