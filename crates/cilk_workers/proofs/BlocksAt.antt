-- The block of a position, by a run's columns.
--
-- - `of_block`, `number_of`, `ends_at`, `first_of`: an entry's block, its number, its `sync` and its first
--   spawn;
-- - `no_resume`, `no_end`: what a position without an entry isn't.
use Rattle.std.proofs.Common.{◌≡◌, inl, inr, ℕ, zero, suc, ◌<◌, ◌≤◌, List, [], ◌∷◌, length, Some, slice_get, slice_index, slice_index_or, refl, sym, ap, ◌∙◌, arith}
use Rattle.std.proofs.lemmas.Option.{get_or_from_slice_get, slice_get-get_or, slice_get_within}
use Rattle.cilk_types.specs.declared.event.Event.TheVariants.{Sync}
use Rattle.cilk_tree.specs.Blocks.{EndsBlockOf}
use Rattle.cilk_tree.specs.Columns.{AreBlockEnds, AreBlocks, AreFirstSpawns, BlocksEnd, IsFirstSpawn, IsOfBlock, IsSpawnOf, no_block}
use Rattle.cilk_tree.specs.Orders.{IsOrderly}
use Rattle.cilk_tree.specs.Word.{event, resume, word_step}
use Rattle.cilk_tree.specs.declared.event_order.EventOrder.{EventOrder}
use Rattle.cilk_workers.specs.Shared.{IsNumberOf}

known : (xs : List ℕ) (p d b : ℕ) → slice_index_or xs p d ≡ b → b < d → slice_get xs p ≡ Some b
known [] zero d b is lt = absurd (omega (arith, is, lt))
known [] (suc p) d b is lt = absurd (omega (arith, is, lt))
known (x ∷ xs) zero d b is lt = ap Some is
known (x ∷ xs) (suc p) d b is lt = known xs p d b is lt

block_ends : (s : EventOrder) (k q : ℕ) → EndsBlockOf s.events k q → event s q ≡ Some Sync
block_ends s k q h = let next = h.2 in let at = next.syncs in at.0

-- an entry of a column
entry_is : (xs : List ℕ) (b x : ℕ) → b < length xs → x ≡ slice_index xs b → slice_get xs b ≡ Some x
entry_is xs b x less is = slice_get-get_or xs b 0 less ∙ ap Some (sym is)

pub first_of : (s : EventOrder) (syncs firsts : List ℕ) → AreFirstSpawns s syncs firsts → (b q k : ℕ) → b < length syncs → q ≡ slice_index syncs b → k ≡ slice_index firsts b → IsFirstSpawn s q k
first_of s syncs firsts are b q k less sync first =
    let count = are.count in are.each b q k (entry_is syncs b q less sync) (entry_is firsts b k (omega (arith, less, count)) first)

module _ (s : EventOrder) (syncs blocks : List ℕ) (ends : AreBlockEnds s syncs) (are : AreBlocks s syncs blocks) where
  pub of_block : (p b q : ℕ) → slice_get blocks p ≡ Some b → b < length syncs → q ≡ slice_index syncs b → IsOfBlock s q p
  of_block p b q there less is = (are.exact p b q (entry_is syncs b q less is)).0 (get_or_from_slice_get blocks p b no_block there)

  pub number_of : (b q : ℕ) → b < length syncs → q ≡ slice_index syncs b → IsNumberOf s b q
  number_of b q less is = (syncs, ends, entry_is syncs b q less is)

  pub ends_at : (b q : ℕ) → b < length syncs → q ≡ slice_index syncs b → event s q ≡ Some Sync
  ends_at b q less is =
      let h = (ends.all q).1 (b, entry_is syncs b q less is) in
      let spawned = h.1 in
      block_ends s h.0 q spawned.ends

  -- a position of a block has an entry
  entry_of : (p q k : ℕ) → IsSpawnOf s q k → IsOfBlock s q p → (b : ℕ) × (slice_get blocks p ≡ Some b) × (b < length syncs)
  entry_of p q k spawned of =
      let b = (ends.all q).0 (k, spawned) in
      let within = slice_get_within syncs b.0 q b.1 in
      let few = are.few in
      (b.0, known blocks p no_block b.0 ((are.exact p b.0 q b.1).1 of) (omega (arith, within, few)), within)

  none_of : (p : ℕ) → ((b : ℕ) → slice_get blocks p ≡ Some b → length syncs ≤ b) → (q k : ℕ) → IsSpawnOf s q k → IsOfBlock s q p → ⊥
  none_of p none q k spawned of =
      let h = entry_of p q k spawned of in
      let past = none h.0 h.1 in
      let within = h.2 in
      omega (arith, past, within)

  pub no_end : (p : ℕ) → ((b : ℕ) → slice_get blocks p ≡ Some b → length syncs ≤ b) → (k : ℕ) → IsSpawnOf s p k → ⊥
  no_end p none k spawned = none_of p none p k spawned (inl refl)

  pub no_resume : IsOrderly s → BlocksEnd s → (p : ℕ) → ((b : ℕ) → slice_get blocks p ≡ Some b → length syncs ≤ b) → (k : ℕ) → word_step s p ≡ resume k → ⊥
  no_resume order all p none k is =
      let spawned = (order.resumed p k is).0 in
      let end = all k spawned in
      none_of p none end.0 k (record { spawns = spawned; ends = end.1 }) (inr (k, is, end.1))
