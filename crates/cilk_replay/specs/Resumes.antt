-- After a spawn its frame resumes.
use Rattle.std.specs.Prelude.{◌≡◌, ◌-◌, ℕ}
use Rattle.cilk_tree.specs.declared.event_order.EventOrder.{EventOrder}
use Rattle.cilk_tree.specs.Runs.{IsAsked, IsFollowed}
use Rattle.cilk_tree.specs.Word.{resume, word_step}

-- A frame that requests a spawn requests the `resume` after it. The same holds if the run follows
-- its event order up to the child's `end`, which is right before that `resume`.
pub record ResumesAreAsked (s : EventOrder) : Type 0 where
  pub spawned : (k p : ℕ) → word_step s p ≡ resume k → IsAsked s k → IsAsked s p
  pub ended : (k p : ℕ) → word_step s p ≡ resume k → IsFollowed s (p - 1) → IsAsked s p
