use Rattle.std.proofs.Common.{◌≡◌, ◌<◌, length, refl, arith}
use Rattle.cilk_workers.specs.ShelfHistories.{ArrivesAt, ShelfStep}
use Rattle.cilk_workers.proofs.Keys.{widths, at, changed, key_for, made_for}
use Rattle.cilk_workers.proofs.context.WorkerContext.arrive.Goals as goal

pub shelf_of-at-requires : goal.shelf_of-at-requires
shelf_of-at-requires g c = let n = c.len.ensures in let some = c.requires.context.shelves in omega (arith, n, some)

pub index_mut-key-requires : goal.index_mut-key-requires
index_mut-key-requires g c = let w = widths _ _ c.requires.keys in let n = c.len.ensures in omega (arith, w, n, c.shelf_of-at.ensures.there)

pub arrive_locked-requires-clause-key : goal.arrive_locked-requires-clause-key
arrive_locked-requires-clause-key g c =
    let n = c.len.ensures in
    let all : c.len.result ≡ length c.args.self.now.locks.now.items = omega (arith, n) in
    let there : c.shelf_of-at.result < length c.args.self.now.locks.now.items = omega (arith, n, c.shelf_of-at.ensures.there) in
    key_for c.index-shelf_lock.result.now c.index_mut-key.result.now c.args.block.number c.shelf_of-at.result c.len.result (length c.args.self.now.locks.now.items) c.shelf_of-at.ensures.number all
    (at _ _ c.requires.keys c.shelf_of-at.result there _ _ c.index-shelf_lock.ensures c.index_mut-key.ensures.value)

pub returns-clause-keys : goal.returns-clause-keys
returns-clause-keys g c =
    let n = c.len.ensures in
    let there : c.shelf_of-at.result < length c.args.self.now.locks.now.items = omega (arith, n, c.shelf_of-at.ensures.there) in
    let its = at _ _ c.requires.keys c.shelf_of-at.result there _ _ c.index-shelf_lock.ensures c.index_mut-key.ensures.value in
    changed _ _ c.requires.keys c.shelf_of-at.result there _ c.arrive_locked.new.key c.index-shelf_lock.ensures (c.arrive_locked.ensures.key _ its)

pub returns-clause-made : goal.returns-clause-made
returns-clause-made g c =
    let n = c.len.ensures in
    let w = widths _ _ c.requires.keys in
    let step : ShelfStep = ArrivesAt c.args.block.sync c.args.arrival c.arrive_locked.result in
    let all : c.len.result ≡ length c.args.keys.now.items = omega (arith, w, n) in
    made_for c.args.keys.now.items _ c.args.block.number c.shelf_of-at.result c.len.result c.index_mut-key.result.now c.arrive_locked.new.key step c.shelf_of-at.ensures.number all
    (omega (arith, w, n, c.shelf_of-at.ensures.there)) c.index_mut-key.ensures.value refl c.arrive_locked.ensures.made
