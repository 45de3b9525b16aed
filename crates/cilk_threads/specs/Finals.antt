-- The outcome from the views of a whole run.
use Rattle.std.specs.Prelude.{◌≡◌, ◌+◌, ℤ, IsTrue, List, [], length}
use Rattle.cilk_types.specs.declared.event.Event.{Event}
use Rattle.cilk_types.specs.declared.outcome.Outcome.{Outcome}
use Rattle.cilk_monoid.specs.declared.kind.MonoidKind.TheVariants.{Append}
use Rattle.cilk_monoid.specs.Values.{Elements}
use Rattle.cilk_hypermap.specs.declared.hypermap.Hypermap.{Hypermap}
use Rattle.cilk_hypermap.specs.Hypermap.{value_in}
use Rattle.cilk_hypermap.specs.Ranges.{ShowsRange}
use Rattle.cilk_hypermap.specs.Views.{output}
use Rattle.cilk_program.specs.Outcomes.{Leaves, cells_from}
use Rattle.cilk_program.specs.SerialRun.{Transcript, IsSerialRun}
use Rattle.cilk_program.specs.Syntax.{Source}
use Rattle.cilk_program.specs.WellNamed.{is_well_named}
use Rattle.cilk_program.specs.Answered.{cells_after, opening_cells}
use Rattle.cilk_tree.specs.declared.event_order.EventOrder.{EventOrder}
use Rattle.cilk_shared.specs.declared.reducers.Reducers.{Reducers}
use Rattle.cilk_shared.specs.Reducers.{kind_in, events_over}
use Rattle.cilk_frames.specs.Leaving.{finals_of}
use Rattle.cilk_threads.specs.Tables.{AreReducersOf}

-- the views give this outcome: the global reducers' last values, and the numbers that were printed
pub record AreLast (p : Source) (h : Hypermap) (outcome : Outcome) : Type 0 where
  pub reducers : outcome.reducers ≡ finals_of h 0 p.reducers
  pub printed : value_in h Append output ≡ Elements outcome.output

-- The views of all events of a serial run that ends without a fault give its outcome.
abbrev pub WholeViewsAreLast : Type 0
WholeViewsAreLast =
    (p : Source) (inputs : List ℤ) (run : Transcript) (es : List Event) (outcome : Outcome) (s : EventOrder) (r : Reducers) (h : Hypermap)
    → IsTrue (is_well_named p) → IsSerialRun p inputs run es (Leaves outcome) → s.events ≡ es → AreReducersOf p run r
    → ShowsRange (kind_in r) h (events_over s r 1 (length es + 1)) → AreLast p h outcome

-- The outcome of an event order whose root ends with this result: the last values of the global
-- cells, and those of the views of all its events.
pub record IsMadeOf (p : Source) (s : EventOrder) (r : Reducers) (value : ℤ) (o : Outcome) : Type 0 where
  pub result : o.result ≡ value
  pub globals : o.globals ≡ cells_from 0 (length p.openings) (cells_after s.events (opening_cells p []))
  pub views : Hypermap
  pub shown : ShowsRange (kind_in r) views (events_over s r 1 (length s.events + 1))
  pub printed : (zs : List ℤ) → value_in views Append output ≡ Elements zs → o.output ≡ zs
  pub reducers : o.reducers ≡ finals_of views 0 p.reducers
