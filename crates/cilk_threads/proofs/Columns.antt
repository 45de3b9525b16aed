-- The columns of a plan are those of each event order along it: `columns_along`.
use Rattle.std.proofs.Common.{ℕ, ◌+◌, List, inl, inr, sym, ap, ◌∙◌}
use Rattle.cilk_tree.specs.Along.{IsAlong}
use Rattle.cilk_tree.specs.Columns.{AreBlockEnds, AreBlocks, AreFirstSpawns, AreStrands, BlocksEnd, IsOfBlock, IsSpawnOf}
use Rattle.cilk_tree.specs.declared.event_order.EventOrder.{EventOrder}
use Rattle.cilk_tree.specs.Orders.{IsOrderly}
use Rattle.cilk_tree.proofs.AlongPlans.{along_orderly, many, same_resume}
use Rattle.cilk_plan.specs.Continuations.{SpawnsHaveContinuations}
use Rattle.cilk_workers.specs.Shared.{AreColumns}
use Rattle.cilk_replay.proofs.AlongBlocks.{back, block_ends, spawn_of, spawns}
use Rattle.cilk_threads.proofs.Strands.{strands_along}

-- ---- from one of two orders along each other to the other

of_block : (plan s : EventOrder) → IsAlong plan s → (q p : ℕ) → IsOfBlock plan q p → IsOfBlock s q p
of_block plan s along q p (inl same) = inl same
of_block plan s along q p (inr (k, is, ends)) = inr (k, (same_resume plan s along p k).1 is, block_ends plan s along k q ends)

-- ---- the columns
module _ (plan s : EventOrder) (along : IsAlong plan s) (order : IsOrderly plan) where
  orderly : IsOrderly s
  orderly = along_orderly plan s order along

  forth : (q k : ℕ) → IsSpawnOf plan q k → IsSpawnOf s q k
  forth q k h = spawn_of plan s along order orderly q k h

  hence : (q k : ℕ) → IsSpawnOf s q k → IsSpawnOf plan q k
  hence q k h = spawn_of s plan (back plan s along) orderly order q k h

  ends_along : (syncs : List ℕ) → AreBlockEnds plan syncs → AreBlockEnds s syncs
  ends_along syncs are = record {
    all = λ q. (
      λ h. (are.all q).0 (h.0, hence q h.0 h.1),
      λ h. (let spawned = (are.all q).1 h in (spawned.0, forth q spawned.0 spawned.1)),
    );
    once = are.once;
    order = λ b b' q q' k' less is is' h. (
        let earlier = are.order b b' q q' k' less is is' (hence q' k' h) in
        (earlier.0, earlier.1, forth q earlier.0 earlier.2)
        );
  }

  blocks_along : (syncs blocks : List ℕ) → AreBlocks plan syncs blocks → AreBlocks s syncs blocks
  blocks_along syncs blocks are = record {
    exact = λ p b q is. (
        let h = are.exact p b q is in
        (λ e. of_block plan s along q p (h.0 e), λ of. h.1 (of_block s plan (back plan s along) q p of))
        );
    others = are.others;
    few = are.few;
    places = are.places ∙ ap (λ (n : ℕ). n + 1) (sym (many plan s along));
  }

  firsts_along : (syncs firsts : List ℕ) → AreFirstSpawns plan syncs firsts → AreFirstSpawns s syncs firsts
  firsts_along syncs firsts are = record {
    count = are.count;
    each = λ b q k is is'. (let first = are.each b q k is is' in record { spawns = forth q k first.spawns; least = λ k' h. first.least k' (hence q k' h) });
  }

  all_end : SpawnsHaveContinuations plan → BlocksEnd s
  all_end have k is =
      let h = have k (spawns s plan (back plan s along) orderly order k is) in
      let c = h.continuation in
      let continues = h.is in
      (c.sync, block_ends plan s along k c.sync continues.ends)

  pub columns_along : SpawnsHaveContinuations plan → (syncs firsts blocks strands : List ℕ) → AreBlockEnds plan syncs → AreFirstSpawns plan syncs firsts → AreBlocks plan syncs blocks
      → AreStrands plan.events strands → AreColumns s syncs firsts blocks strands
  columns_along have syncs firsts blocks strands ends first are begin = (
    ends_along syncs ends,
    blocks_along syncs blocks are,
    strands_along plan.events s.events (sym along.kinds) strands begin,
    all_end have,
    firsts_along syncs firsts first,
  )
