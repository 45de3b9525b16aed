-- Two small runs, computed.
use Rattle.std.specs.Prelude.{◌≡◌, List, [], ◌∷◌, pos}
use Rattle.cilk_types.specs.declared.event.Event.{Event}
use Rattle.cilk_types.specs.declared.event.Event.TheVariants.{Begin, Spawn, Resume, Sync, End, Read, Write}
use Rattle.cilk_types.specs.declared.invocation.Invocation.TheVariants as invocations
use Rattle.cilk_tree.specs.Shape.{Shape, finish, act, sync, child, Spells}
use Rattle.cilk_tree.specs.Tree.{tree}
use Rattle.cilk_tree.specs.Hebrew.{hebrews}
use Rattle.cilk_tree.specs.Span.{IsSpan}
use Rattle.cilk_tree.specs.Reach.{predecessors}

-- an empty program
abbrev pub empty : Shape
empty = sync finish

abbrev pub empty_events : List Event
empty_events = Begin 1 ∷ Sync ∷ End ∷ []

abbrev pub EmptyIsChain : Type 0
EmptyIsChain = Spells empty empty_events × IsSpan (tree empty) empty_events 3

-- A spawned function writes a variable that its parent reads before it syncs.
abbrev pub spawn_race : Shape
spawn_race = act (act (child invocations.Spawn (sync (act finish)) (act (act (sync (act (sync finish)))))))

abbrev pub spawn_race_events : List Event
spawn_race_events =
    Begin 1 ∷ Write 0 (pos 0) ∷ Write 1 (pos 0) ∷ Spawn 2 ∷ Begin 2 ∷ Sync ∷ Write 0 (pos 1) ∷ End ∷ Resume 1
    ∷ Read 0 (pos 1) ∷ Write 1 (pos 1) ∷ Sync ∷ Read 1 (pos 1) ∷ Sync ∷ End ∷ []

abbrev pub SpawnRaceSpells : Type 0
SpawnRaceSpells = Spells spawn_race spawn_race_events

abbrev pub SpawnRaceLabels : Type 0
SpawnRaceLabels = hebrews (tree spawn_race) 1 ≡ 1 ∷ 3 ∷ 4 ∷ 2 ∷ 5 ∷ 6 ∷ []

abbrev pub SpawnRaceSpan : Type 0
SpawnRaceSpan = IsSpan (tree spawn_race) spawn_race_events 12

-- the `resume` at 9 has the spawn at 4, the `sync` at 12 also has the child's `end` at 8
abbrev pub SpawnRacePredecessors : Type 0
SpawnRacePredecessors =
    predecessors spawn_race
    ≡ [] ∷ (1 ∷ []) ∷ (2 ∷ []) ∷ (3 ∷ []) ∷ (4 ∷ []) ∷ (5 ∷ []) ∷ (6 ∷ []) ∷ (7 ∷ []) ∷ (4 ∷ [])
    ∷ (9 ∷ []) ∷ (10 ∷ []) ∷ (11 ∷ 8 ∷ []) ∷ (12 ∷ []) ∷ (13 ∷ []) ∷ (14 ∷ []) ∷ []
