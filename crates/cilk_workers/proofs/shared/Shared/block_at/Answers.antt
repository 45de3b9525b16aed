use Rattle.std.proofs.Common.{◌≡◌, ◌<◌, length, Some, sym, subst, arith}
use Rattle.cilk_types.specs.declared.event.Event.TheVariants.{Sync}
use Rattle.cilk_tree.specs.Columns.{IsFirstSpawn, IsOfBlock, IsSpawnOf}
use Rattle.cilk_tree.specs.Word.{event, resume, word_step}
use Rattle.cilk_workers.specs.Shared.{IsNumberOf, SharedValue, event_order_in}
use Rattle.cilk_workers.proofs.BlocksAt.{ends_at, first_of, no_end, no_resume, number_of, of_block}
use Rattle.cilk_workers.proofs.shared.Shared.block_at.Goals as goal

pub returns-clause-block : goal.returns-clause-block
returns-clause-block c =
    let i = c.self.inside in
    let less : c.in_ok-number.number < length i.columns.syncs.now = let l = c.in_ok-number.ensures.1 in omega (arith, l) in
    subst (λ (y : SharedValue). IsOfBlock (event_order_in y) c.position_in-sync.result c.args.at) c.self.view_is
    (of_block i.yard.now.event_order i.columns.syncs.now i.columns.blocks.now c.self.invariant.5.0 c.self.invariant.5.1 c.args.at c.in_ok-number.number c.position_in-sync.result c.in_ok-number.ensures.0 less c.position_in-sync.ensures)

pub returns-clause-number : goal.returns-clause-number
returns-clause-number c =
    let i = c.self.inside in
    let less : c.in_ok-number.number < length i.columns.syncs.now = let l = c.in_ok-number.ensures.1 in omega (arith, l) in
    subst (λ (y : SharedValue). IsNumberOf (event_order_in y) c.in_ok-number.number c.position_in-sync.result) c.self.view_is
    (number_of i.yard.now.event_order i.columns.syncs.now i.columns.blocks.now c.self.invariant.5.0 c.self.invariant.5.1 c.in_ok-number.number c.position_in-sync.result less c.position_in-sync.ensures)

pub returns-clause-sync : goal.returns-clause-sync
returns-clause-sync c =
    let i = c.self.inside in
    let less : c.in_ok-number.number < length i.columns.syncs.now = let l = c.in_ok-number.ensures.1 in omega (arith, l) in
    subst (λ (y : SharedValue). event (event_order_in y) c.position_in-sync.result ≡ Some Sync) c.self.view_is
    (ends_at i.yard.now.event_order i.columns.syncs.now i.columns.blocks.now c.self.invariant.5.0 c.self.invariant.5.1 c.in_ok-number.number c.position_in-sync.result less c.position_in-sync.ensures)

pub position_in-first-requires : goal.position_in-first-requires
position_in-first-requires c =
    let less : c.in_ok-number.number < length (let i = c.self.inside in i.columns.syncs.now) = let l = c.in_ok-number.ensures.1 in omega (arith, l) in
    let count = c.self.invariant.5.4.count in
    omega (arith, less, count)

pub returns-clause-first : goal.returns-clause-first
returns-clause-first c =
    let i = c.self.inside in
    let less : c.in_ok-number.number < length i.columns.syncs.now = let l = c.in_ok-number.ensures.1 in omega (arith, l) in
    subst (λ (y : SharedValue). IsFirstSpawn (event_order_in y) c.position_in-sync.result c.position_in-first.result) c.self.view_is
    (first_of i.yard.now.event_order i.columns.syncs.now i.columns.firsts.now c.self.invariant.5.4 c.in_ok-number.number c.position_in-sync.result c.position_in-first.result less c.position_in-sync.ensures c.position_in-first.ensures)

pub returns-in_err-number-clause-resumed : goal.returns-in_err-number-clause-resumed
returns-in_err-number-clause-resumed c = λ k is.
    let i = c.self.inside in
    absurd (no_resume i.yard.now.event_order i.columns.syncs.now i.columns.blocks.now c.self.invariant.5.0 c.self.invariant.5.1 c.laws.ensures.order c.self.invariant.5.3 c.args.at
    (λ b there. let past = c.in_err-number.ensures b there in omega (arith, past)) k (subst (λ (y : SharedValue). word_step (event_order_in y) c.args.at ≡ resume k) (sym c.self.view_is) is))

pub returns-in_err-number-clause-ends : goal.returns-in_err-number-clause-ends
returns-in_err-number-clause-ends c = λ k spawned.
    let i = c.self.inside in
    absurd (no_end i.yard.now.event_order i.columns.syncs.now i.columns.blocks.now c.self.invariant.5.0 c.self.invariant.5.1 c.args.at
    (λ b there. let past = c.in_err-number.ensures b there in omega (arith, past)) k (subst (λ (y : SharedValue). IsSpawnOf (event_order_in y) c.args.at k) (sym c.self.view_is) spawned))
