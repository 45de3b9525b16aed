-- A worked case: a small run whose reducers are settled.
use Rattle.std.specs.Prelude.{List, [], ◌∷◌, pos}
use Rattle.cilk_types.specs.declared.event.Event.{Event}
use Rattle.cilk_types.specs.declared.event.Event.TheVariants.{Begin, Spawn, Resume, Sync, End, Create, Update, Value}
use Rattle.cilk_types.specs.declared.event.Instance.{Instance}
use Rattle.cilk_monoid.specs.declared.kind.MonoidKind.TheVariants.{Add}
use Rattle.cilk_tree.specs.Planned.{planned}
use Rattle.cilk_shared.specs.declared.reducers.Reducers.{Reducers}
use Rattle.cilk_shared.specs.Settled.{AreSettled}

abbrev pub total : Instance
total = record { frame = 1; place = 1 }

-- A spawned function and its parent update a sum in parallel, which is read after the sync.
abbrev pub two_updates : List Event
two_updates =
    Begin 1 ∷ Create total ∷ Spawn 2 ∷ Begin 2 ∷ Update total (pos 5) ∷ Sync ∷ End ∷ Resume 1 ∷ Update total (pos 7) ∷ Sync ∷ Value total (pos 12) ∷ Sync ∷ End ∷ []

abbrev pub one_sum : Reducers
one_sum = record { frames = record { kinds = Add ∷ []; outlive = 0 } ∷ record { kinds = []; outlive = 0 } ∷ [] }

abbrev pub TwoUpdatesAreSettled : Type 0
TwoUpdatesAreSettled = AreSettled (planned two_updates []) one_sum
