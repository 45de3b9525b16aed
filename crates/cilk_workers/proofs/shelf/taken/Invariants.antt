use Rattle.std.proofs.Common.{◌≡◌, ◌≢◌, ◌<◌, ℕ, get_or}
use Rattle.std.specs.Prelude.{All}
use Rattle.cilk_workers.specs.Boxes.{BoxValue}
use Rattle.cilk_workers.specs.Shelves.{LiesOn}
use Rattle.cilk_workers.proofs.shelf.taken.Given as goal

abbrev pub invariant-each : goal.invariant-each
invariant-each l =
    All (LiesOn l.shared.run l.shared.replay) l.boxes.items
    × (l.boxes ≡ l.fn.boxes)
    × ((k : ℕ) (d : BoxValue) → k < l.at → (let b = get_or l.boxes.items k d in b.sync ≢ l.sync))
