-- The events of a serial run spell a shape, and so have strands.
use Rattle.std.specs.Prelude.{◌≡◌, ℤ, List}
use Rattle.cilk_types.specs.declared.event.Event.{Event}
use Rattle.cilk_types.specs.declared.outcome.Outcome.{Outcome}
use Rattle.cilk_program.specs.Outcomes.{Leaves}
use Rattle.cilk_program.specs.Syntax.{Source}
use Rattle.cilk_program.specs.SerialRun.{Transcript, IsSerialRun}
use Rattle.cilk_tree.specs.Reach.{IsSynced}
use Rattle.cilk_tree.specs.Shape.{Shape, Spells}

-- the events spell exactly one shape, in which each frame syncs after it spawned
pub record HasOneShape (es : List Event) : Type 0 where
  pub shape : Shape
  pub spells : Spells shape es
  pub synced : IsSynced shape
  pub one : (s : Shape) → Spells s es → s ≡ shape

-- the events of a serial run that ends without a fault spell one shape
abbrev pub SpellOneShape : Source → List ℤ → Type 0
SpellOneShape p inputs = (r : Transcript) (es : List Event) (outcome : Outcome) → IsSerialRun p inputs r es (Leaves outcome) → HasOneShape es
