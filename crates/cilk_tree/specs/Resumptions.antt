-- The `resume` of each spawn.
use Rattle.std.specs.Prelude.{◌≡◌, ◌↔◌, ◌≤◌, ℕ, List, slice_index_or}
use Rattle.cilk_tree.specs.declared.event_order.EventOrder.{EventOrder}
use Rattle.cilk_tree.specs.Word.{resume, word_step}

-- the column has each spawn's `resume` at the spawn's position, and 0, which is no position, at all
-- others
abbrev pub AreResumptions : EventOrder → List ℕ → Type 0
AreResumptions s column = (k p : ℕ) → ((1 ≤ p) × (slice_index_or column k 0 ≡ p)) ↔ (word_step s p ≡ resume k)
