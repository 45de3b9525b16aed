-- The columns of a plan after its first n events.
use Rattle.std.specs.Prelude.{◌≡◌, ◌≢◌, ◌↔◌, ◌⊎◌, ℕ, ◌+◌, ◌<◌, ◌≤◌, List, length, Some, slice_get, slice_index_or}
use Rattle.cilk_types.specs.declared.event.Event.{Event}
use Rattle.cilk_tree.specs.declared.event_order.EventOrder.{EventOrder}
use Rattle.cilk_tree.specs.Blocks.{EndsBlockOf, IsNextSync, SyncsAt}
use Rattle.cilk_tree.specs.PlanStrands.{BeginsStrand}
use Rattle.cilk_tree.specs.Races.{strand_at}
use Rattle.cilk_tree.specs.Word.{resume, spawn, word_step}
use Rattle.cilk_tree.specs.Columns.{AreFirstSpawns, IsOfBlock, IsSpawnOf, no_block}
use Rattle.cilk_tree.specs.declared.blocks.Pass.{Pass}

-- The blocks of the spawns so far end with these `sync`s, in the order of the blocks' first spawns.
-- Each frame's block that has yet to end is at the frame's number.
pub record AreOpened (s : EventOrder) (n : ℕ) (ends pending : List ℕ) : Type 0 where
  pub all : (q : ℕ) → ((k : ℕ) × (k ≤ n) × IsSpawnOf s q k) ↔ ((b : ℕ) × (slice_get ends b ≡ Some q))
  pub once : (b b' q : ℕ) → slice_get ends b ≡ Some q → slice_get ends b' ≡ Some q → b ≡ b'
  pub order : (b b' q q' k' : ℕ) → b < b' → slice_get ends b ≡ Some q → slice_get ends b' ≡ Some q' → IsSpawnOf s q' k'
      → (k : ℕ) × (k < k') × IsSpawnOf s q k
  pub few : length ends ≤ n
  pub stands : (f b q : ℕ) → slice_get ends b ≡ Some q → n < q → SyncsAt s.events f q → slice_index_or pending f no_block ≡ b
  pub next : (f : ℕ) → slice_index_or pending f no_block ≢ no_block → (q : ℕ) × (slice_get ends (slice_index_or pending f no_block) ≡ Some q) × IsNextSync s.events f n q

-- the `sync`s so far are listed at their blocks
pub record AreListed (n : ℕ) (ends syncs : List ℕ) : Type 0 where
  pub many : length syncs ≡ length ends
  pub met : (b q : ℕ) → slice_get ends b ≡ Some q → q ≤ n → slice_get syncs b ≡ Some q

-- the positions so far have their blocks
pub record AreMarked (s : EventOrder) (n : ℕ) (ends column : List ℕ) : Type 0 where
  pub exact : (p b q : ℕ) → slice_get ends b ≡ Some q → (slice_index_or column p no_block ≡ b) ↔ ((p ≤ n) × IsOfBlock s q p)
  pub others : (p : ℕ) → (slice_index_or column p no_block < length ends) ⊎ (slice_index_or column p no_block ≡ no_block)
  pub places : length column ≡ length s.events + 1

-- each spawn so far has its `resume`, and its block until then
pub record AreResumed (s : EventOrder) (n : ℕ) (ends column : List ℕ) : Type 0 where
  pub back : (k p : ℕ) → word_step s p ≡ resume k → p ≤ n → slice_index_or column k 0 ≡ p
  pub waits : (k p : ℕ) → word_step s p ≡ resume k → k ≤ n → n < p → (q : ℕ) × (slice_get ends (slice_index_or column k 0) ≡ Some q) × EndsBlockOf s.events k q
  pub none : (k : ℕ) → (n < k) ⊎ (word_step s k ≢ spawn) → slice_index_or column k 0 ≡ 0
  pub places : length column ≡ length s.events + 1

-- the columns after the first n events
pub record HasMet (s : EventOrder) (n : ℕ) (syncs firsts blocks resumptions pending : List ℕ) : Type 0 where
  pub ends : List ℕ
  pub opened : AreOpened s n ends pending
  pub listed : AreListed n ends syncs
  pub begun : AreFirstSpawns s ends firsts
  pub marked : AreMarked s n ends blocks
  pub resumed : AreResumed s n ends resumptions

abbrev pub Met : EventOrder → ℕ → Pass → Type 0
Met s n p = HasMet s n p.syncs.items p.firsts.items p.blocks.items p.resumptions.items p.pending.items

-- the list has the number at the place, and is unchanged at all others
pub record IsPlaced (old : List ℕ) (place number : ℕ) (new : List ℕ) : Type 0 where
  pub here : slice_index_or new place no_block ≡ number
  pub others : (f : ℕ) → f ≢ place → slice_index_or new f no_block ≡ slice_index_or old f no_block

-- the strands that the first n events begin are in the column, and this many they are
pub record AreBegun (es : List Event) (n strands : ℕ) (column : List ℕ) : Type 0 where
  pub many : strands ≡ strand_at es n
  pub exact : (p k : ℕ) → 1 ≤ k → (slice_index_or column p 0 ≡ k) ↔ ((p ≤ n) × BeginsStrand es k p)
  pub places : length column ≡ n + 1
