-- The peer classes of a small run.
use Rattle.std.specs.Prelude.{◌≡◌, [], ◌∷◌}
use Rattle.cilk_tree.specs.Tree.{tree}
use Rattle.cilk_tree.specs.Worked.{spawn_race}
use Rattle.cilk_peers.specs.Peers.{class_numbers}

-- the spawned child and the rest of its parent's block are two classes
abbrev pub SpawnRaceClasses : Type 0
SpawnRaceClasses = class_numbers (tree spawn_race) 0 1 ≡ 0 ∷ 2 ∷ 2 ∷ 4 ∷ 0 ∷ 0 ∷ []
