-- Consequences of the rule of the words, at each moment.
use Rattle.std.specs.Prelude.{◌≡◌, ◌↔◌, ℕ, ◌+◌, ◌<◌, ◌≤◌, pos, length, slice_index, slice_index_or}
use mathlib.Core.Option.{some}
use lib.ListN.{get_elem?}
use Rattle.atomic_table.specs.Table.{State}
use Rattle.cilk_tree.specs.declared.event_order.EventOrder.{EventOrder}
use Rattle.cilk_tree.specs.Orders.{IsOrderly}
use Rattle.cilk_tree.specs.Word.{spawn, resume, write, word, word_step, Before, IsWord}
use Rattle.cilk_shared.specs.declared.view.View.{View}
use Rattle.cilk_shared.specs.Rule.{cells, Done, In, Kept}

-- If the spawn at k is done and the `resume` after it, at p, is not, the word of the continuation
-- is 1: the next thread that takes it gets it.
abbrev pub UntakenIsOpen : Type 0
UntakenIsOpen =
    (s : EventOrder) (t : State (Unit {0}) View) (k p : ℕ) → Kept s t → word_step s k ≡ spawn → word_step s p ≡ resume k
    → Done t.views k → (Done t.views p → ⊥) → slice_index t.words (cells s + k) ≡ 1

-- What the words show of the steps that the seats have done. There is a word for each cell, then one
-- for the run's end, then one for each position.
pub record TellsWhatIsDone (s : EventOrder) (t : State (Unit {0}) View) : Type 0 where
  -- no position is in the ranges of two seats
  pub apart : (i j : ℕ) (v w : View) (p : ℕ) → get_elem? t.views i ≡ some v → get_elem? t.views j ≡ some w → In v p → In w p → i ≡ j
  -- each step on a word that comes before a done one is done
  pub cut : (p q : ℕ) → Done t.views p → IsWord (word_step s p) → IsWord (word_step s q) → Before s q p → Done t.views q
  -- a cell's word is that of the last done write of it in serial order
  pub written : (c q n : ℕ) → c < cells s → Done t.views q → word_step s q ≡ write c n → ((r v : ℕ) → Done t.views r → word_step s r ≡ write c v → r ≤ q)
      → slice_index t.words c ≡ n
  -- or of its opening value, where no write of it is done
  pub unwritten : (c : ℕ) → c < cells s → ((q n : ℕ) → Done t.views q → word_step s q ≡ write c n → ⊥) → slice_index t.words c ≡ word (slice_index_or s.opening c (pos 0))
  -- a continuation's word: 0 before its spawn, 2 from its `resume` on, and 1 between
  pub unoffered : (k : ℕ) → word_step s k ≡ spawn → (slice_index t.words (cells s + k) ≡ 0) ↔ (Done t.views k → ⊥)
  pub offered : (k p : ℕ) → word_step s p ≡ resume k → (slice_index t.words (cells s + k) ≡ 1) ↔ (Done t.views k × (Done t.views p → ⊥))
  pub resumed : (k p : ℕ) → word_step s p ≡ resume k → (slice_index t.words (cells s + k) ≡ 2) ↔ Done t.views p
  -- the word of the end: 1 once the root's `end`, the last event, is done, and 0 before
  pub unended : (slice_index t.words (cells s) ≡ 0) ↔ (Done t.views (length s.events) → ⊥)
  pub ended : (slice_index t.words (cells s) ≡ 1) ↔ Done t.views (length s.events)

-- The words tell it in each state that the rule allows.
abbrev pub WordsTellWhatIsDone : Type 0
WordsTellWhatIsDone = (s : EventOrder) (t : State (Unit {0}) View) → IsOrderly s → Kept s t → TellsWhatIsDone s t
