use Rattle.std.proofs.Common.{◌≡◌, ◌<◌, ℕ, length}
use Rattle.std.specs.Prelude.{take}
use Rattle.cilk_determinacy.specs.Runs.{Name}
use Rattle.cilk_schedule.specs.Showing.{AreLinked}
use Rattle.cilk_schedule.proofs.showing.Shown.place.Given as goal

abbrev pub invariant-each : goal.invariant-each
invariant-each l = (name : ℕ → Name) → AreLinked (let f = l.self.frames in f.items) name → (l.place < length (let f = l.self.frames in f.items)) × (name l.place ≡ take l.ordinal-index l.path)
