use Rattle.std.proofs.Common.{◌≡◌, ◌∙◌, false, true, refl, sym, subst}
use Rattle.std.specs.Prelude.{IfSome, IsSome}
use Rattle.cilk_replay.specs.Chains.{standing}
use Rattle.cilk_tree.specs.Columns.{IsOfBlock, IsSpawnOf}
use Rattle.cilk_workers.specs.Shared.{event_order_in}
use Rattle.cilk_shared.specs.Pieces.{PieceValue}
use Rattle.cilk_tree.specs.Word.{resume, word_step}
use Rattle.cilk_workers.specs.declared.activity.Activity.TheVariants as hands
use Rattle.cilk_workers.specs.declared.activity.ExitReason.TheVariants as finishes
use Rattle.cilk_workers.specs.declared.locks.Met.{Met}
use Rattle.cilk_workers.specs.Keys.{GoesOnBy}
use Rattle.cilk_workers.specs.Boxes.{EndsAtKey, is_some}
use Rattle.cilk_workers.proofs.Arrivals.{at_key, has_block}
use Rattle.cilk_workers.proofs.context.WorkerContext.arrived.Goals as goal

pub unreachable-requires : goal.unreachable-requires
unreachable-requires g c =
    let s = event_order_in c.args.self.now.shared.now in
    let none : IsSome c.block_at.result → ⊥ = λ some. (let no : false ≡ true = subst IsSome c.in_default.is some in cc no) in
    has_block s c.args.piece c.args.chain ⊥ c.requires.ends
    (λ k is. none (c.block_at.ensures.resumed k (subst (λ n. word_step s n ≡ resume k) (sym c.upto-at.ensures) is)))
    (λ k spawned. none (c.block_at.ensures.ends k (subst (λ n. IsSpawnOf s n k) (sym c.upto-at.ensures) spawned)))

pub arrive-requires-clause-chain : goal.arrive-requires-clause-chain
arrive-requires-clause-chain g c = subst (λ (p : PieceValue). IfSome c.args.chain (λ d. d ≡ standing c.args.self.now.shared.now.replay p.upto)) (sym c.apart-piece.ensures.first) c.requires.chain

pub arrive-requires-clause-block : goal.arrive-requires-clause-block
arrive-requires-clause-block g c =
    let s = event_order_in c.args.self.now.shared.now in
    let sync = c.in-Some.block.sync in
    subst (λ (p : PieceValue). IsOfBlock s sync p.upto) (sym c.apart-piece.ensures.first) (subst (IsOfBlock s sync) c.upto-at.ensures c.in-Some.ensures.block)

pub arrive-requires-clause-ends : goal.arrive-requires-clause-ends
arrive-requires-clause-ends g c =
    let s = event_order_in c.args.self.now.shared.now in
    let by = c.key_at-by.result in
    subst (λ (p : PieceValue). EndsAtKey s by p (is_some c.args.chain)) (sym c.apart-piece.ensures.first)
    (at_key s c.args.piece c.args.chain by c.requires.ends
    (λ k is. c.key_at-by.ensures.child k (subst (λ n. word_step s n ≡ resume k) (sym c.upto-at.ensures) is))
    (λ none. c.key_at-by.ensures.own (λ k is. none k (subst (λ n. word_step s n ≡ resume k) c.upto-at.ensures is)) ∙ c.upto-at.ensures))

pub returns-in-Passes-clause-told : goal.returns-in-Passes-clause-told
returns-in-Passes-clause-told g c =
    let of = subst (IsOfBlock (event_order_in c.args.self.now.shared.now) c.in-Some.block.sync) c.upto-at.ensures c.in-Some.ensures.block in (
      c.in-Some.block.number,
      c.in-Some.block.sync,
      _,
      c.arrive.result,
      c.in-Some.ensures.number,
      of,
      c.apart-piece.ensures.first,
      refl,
      subst (λ (m : Met). GoesOnBy m (hands.Holds c.in-Passes.work)) (sym c.in-Passes.is) refl,
      c.arrive.ensures.made,
    )

pub returns-in-Waits-clause-told : goal.returns-in-Waits-clause-told
returns-in-Waits-clause-told g c =
    let of = subst (IsOfBlock (event_order_in c.args.self.now.shared.now) c.in-Some.block.sync) c.upto-at.ensures c.in-Some.ensures.block in (
      c.in-Some.block.number,
      c.in-Some.block.sync,
      _,
      c.arrive.result,
      c.in-Some.ensures.number,
      of,
      c.apart-piece.ensures.first,
      refl,
      subst (λ (m : Met). GoesOnBy m (hands.Idle c.apart-piece.result.1)) (sym c.in-Waits.is) tt,
      c.arrive.ensures.made,
    )

pub returns-in-Stopped-clause-told : goal.returns-in-Stopped-clause-told
returns-in-Stopped-clause-told g c =
    let of = subst (IsOfBlock (event_order_in c.args.self.now.shared.now) c.in-Some.block.sync) c.upto-at.ensures c.in-Some.ensures.block in (
      c.in-Some.block.number,
      c.in-Some.block.sync,
      _,
      c.arrive.result,
      c.in-Some.ensures.number,
      of,
      c.apart-piece.ensures.first,
      refl,
      subst (λ (m : Met). GoesOnBy m (hands.Done finishes.OutOfMemory)) (sym c.in-Stopped.is) tt,
      c.arrive.ensures.made,
    )
