use Rattle.std.proofs.Common.{refl}
use Rattle.cilk_tree.specs.Worked.{empty, empty_events, spawn_race, spawn_race_events}
use Rattle.cilk_tree.proofs.Spans.{is_span}
use Rattle.cilk_tree.proofs.laws.worked_runs.Goals as goal

pub returns : goal.returns
returns c = record {
  empty = (refl, is_span empty empty_events refl);
  spawn_race = refl;
  labels = refl;
  span = is_span spawn_race spawn_race_events refl;
  predecessors = refl;
}
