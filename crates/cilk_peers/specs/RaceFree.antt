-- Lists of events without races.
use Rattle.std.specs.Prelude.{List}
use Rattle.cilk_types.specs.declared.event.Event.{Event}
use Rattle.cilk_tree.specs.Shape.{Shape, Spells}
use Rattle.cilk_tree.specs.Tree.{tree}
use Rattle.cilk_tree.specs.Races.{HasNoRace}
use Rattle.cilk_peers.specs.ViewRaces.{HasNoViewRace}

-- no two positions have a determinacy race or a view-read race
pub record IsRaceFree (es : List Event) : Type 0 where
  pub shape : Shape
  pub spells : Spells shape es
  pub races : HasNoRace (tree shape) es
  pub view_races : HasNoViewRace (tree shape) es
