use Rattle.std.proofs.Common.{◌≡◌, ℕ, ◌-◌, ◌+◌, false, length}
use Rattle.std.specs.Prelude.{slice_index_or}
use Rattle.cilk_oblivious.proofs.memory.MarkedMemory.reach.Given as goal

abbrev pub invariant-grow : goal.invariant-grow
invariant-grow l = ((n : ℕ) → slice_index_or l.self.cells.items n false ≡ slice_index_or l.fn.self.cells.items n false) × (l.self.views ≡ l.fn.self.views)

abbrev pub decreases-grow : goal.decreases-grow
decreases-grow l = l.cell + 1 - length l.self.cells.items
