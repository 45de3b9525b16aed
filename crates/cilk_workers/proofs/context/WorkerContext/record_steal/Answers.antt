use Rattle.std.proofs.Common.{◌≡◌, ◌<◌, length, refl, arith}
use Rattle.cilk_workers.specs.ShelfHistories.{ShelfStep, StealsAt}
use Rattle.cilk_workers.proofs.Keys.{widths, at, changed, key_for, made_for}
use Rattle.cilk_workers.proofs.context.WorkerContext.record_steal.Goals as goal

pub shelf_of-number-requires : goal.shelf_of-number-requires
shelf_of-number-requires g c = let n = c.len.ensures in let some = c.requires.context.shelves in omega (arith, n, some)

pub index_mut-key-requires : goal.index_mut-key-requires
index_mut-key-requires g c = let w = widths _ _ c.requires.keys in let n = c.len.ensures in omega (arith, w, n, c.shelf_of-number.ensures.there)

pub record_steal_locked-requires-clause-key : goal.record_steal_locked-requires-clause-key
record_steal_locked-requires-clause-key g c =
    let n = c.len.ensures in
    let all : c.len.result ≡ length c.args.self.now.locks.now.items = omega (arith, n) in
    let there : c.shelf_of-number.result < length c.args.self.now.locks.now.items = omega (arith, n, c.shelf_of-number.ensures.there) in
    key_for c.index-shelf_lock.result.now c.index_mut-key.result.now c.args.block.number c.shelf_of-number.result c.len.result (length c.args.self.now.locks.now.items) c.shelf_of-number.ensures.number all
    (at _ _ c.requires.keys c.shelf_of-number.result there _ _ c.index-shelf_lock.ensures c.index_mut-key.ensures.value)

pub returns-clause-keys : goal.returns-clause-keys
returns-clause-keys g c =
    let n = c.len.ensures in
    let there : c.shelf_of-number.result < length c.args.self.now.locks.now.items = omega (arith, n, c.shelf_of-number.ensures.there) in
    let its = at _ _ c.requires.keys c.shelf_of-number.result there _ _ c.index-shelf_lock.ensures c.index_mut-key.ensures.value in
    changed _ _ c.requires.keys c.shelf_of-number.result there _ c.record_steal_locked.new.key c.index-shelf_lock.ensures (c.record_steal_locked.ensures.key _ its)

pub returns-clause-made : goal.returns-clause-made
returns-clause-made g c =
    let n = c.len.ensures in
    let w = widths _ _ c.requires.keys in
    let step : ShelfStep = StealsAt c.args.block.sync c.args.child c.args.goes_on c.record_steal_locked.result in
    let all : c.len.result ≡ length c.args.keys.now.items = omega (arith, w, n) in
    made_for c.args.keys.now.items _ c.args.block.number c.shelf_of-number.result c.len.result c.index_mut-key.result.now c.record_steal_locked.new.key step c.shelf_of-number.ensures.number all
    (omega (arith, w, n, c.shelf_of-number.ensures.there)) c.index_mut-key.ensures.value refl c.record_steal_locked.ensures.made
