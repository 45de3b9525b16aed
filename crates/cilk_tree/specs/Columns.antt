-- The columns of a plan: the blocks and the strands of its positions.
use Rattle.std.specs.Prelude.{◌≡◌, ◌↔◌, ◌⊎◌, ℕ, ◌+◌, ◌<◌, ◌≤◌, List, length, Some, slice_get, slice_index_or}
use Rattle.cilk_types.specs.declared.event.Event.{Event}
use Rattle.cilk_tree.specs.declared.event_order.EventOrder.{EventOrder}
use Rattle.cilk_tree.specs.Blocks.{EndsBlockOf}
use Rattle.cilk_tree.specs.PlanStrands.{BeginsStrand}
use Rattle.cilk_tree.specs.Word.{resume, spawn, word_step}

-- the spawn at k is in the block that ends with the `sync` at q
pub record IsSpawnOf (s : EventOrder) (q k : ℕ) : Type 0 where
  pub spawns : word_step s k ≡ spawn
  pub ends : EndsBlockOf s.events k q

-- The `sync`s that end blocks with spawns, in the order of the blocks' first spawns. The number of
-- a block is the index of its `sync`.
pub record AreBlockEnds (s : EventOrder) (syncs : List ℕ) : Type 0 where
  pub all : (q : ℕ) → ((k : ℕ) × IsSpawnOf s q k) ↔ ((b : ℕ) × (slice_get syncs b ≡ Some q))
  pub once : (b b' q : ℕ) → slice_get syncs b ≡ Some q → slice_get syncs b' ≡ Some q → b ≡ b'
  -- before each spawn of a later block the earlier block has a spawn
  pub order : (b b' q q' k' : ℕ) → b < b' → slice_get syncs b ≡ Some q → slice_get syncs b' ≡ Some q' → IsSpawnOf s q' k'
      → (k : ℕ) × (k < k') × IsSpawnOf s q k

-- the spawn at k is the first of the block that ends with the `sync` at q
pub record IsFirstSpawn (s : EventOrder) (q k : ℕ) : Type 0 where
  pub spawns : IsSpawnOf s q k
  pub least : (k' : ℕ) → IsSpawnOf s q k' → k ≤ k'

-- the first spawns of the blocks that end with these `sync`s, by the blocks' numbers
pub record AreFirstSpawns (s : EventOrder) (syncs firsts : List ℕ) : Type 0 where
  pub count : length firsts ≡ length syncs
  pub each : (b q k : ℕ) → slice_get syncs b ≡ Some q → slice_get firsts b ≡ Some k → IsFirstSpawn s q k

-- no block has this number, the greatest of 32 bits
abbrev pub no_block : ℕ
no_block = 4294967295

-- the position is the `sync` at q, which ends a block, or the `resume` after a spawn of that block
abbrev pub IsOfBlock : EventOrder → ℕ → ℕ → Type 0
IsOfBlock s q p = (p ≡ q) ⊎ ((k : ℕ) × (word_step s p ≡ resume k) × EndsBlockOf s.events k q)

-- At each position the number of its block, and `no_block` where it has none. The blocks end with
-- these `sync`s.
pub record AreBlocks (s : EventOrder) (syncs column : List ℕ) : Type 0 where
  pub exact : (p b q : ℕ) → slice_get syncs b ≡ Some q → (slice_index_or column p no_block ≡ b) ↔ IsOfBlock s q p
  pub others : (p : ℕ) → (slice_index_or column p no_block < length syncs) ⊎ (slice_index_or column p no_block ≡ no_block)
  pub few : length syncs ≤ no_block
  pub places : length column ≡ length s.events + 1

-- the block of each spawn ends
abbrev pub BlocksEnd : EventOrder → Type 0
BlocksEnd s = (k : ℕ) → word_step s k ≡ spawn → (q : ℕ) × EndsBlockOf s.events k q

-- at each position the strand that begins there, and 0, which is no strand, where none does
abbrev pub AreStrands : List Event → List ℕ → Type 0
AreStrands es column = (p n : ℕ) → 1 ≤ n → (slice_index_or column p 0 ≡ n) ↔ BeginsStrand es n p
