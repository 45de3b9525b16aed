use Rattle.std.proofs.Common.{length, arith}
use Rattle.cilk_workers.specs.Shelves.{place}
use Rattle.cilk_workers.proofs.Keys.{widths, at, changed, key_at}
use Rattle.cilk_threads.proofs.seeds.one_more.Goals as goal

pub index_mut-key-requires : goal.index_mut-key-requires
index_mut-key-requires g c = let w = widths _ _ c.requires.keys in omega (arith, w, c.requires.at)

pub another-requires : goal.another-requires
another-requires g c =
    (place c.args.at (length c.args.locks.now.items), at _ _ c.requires.keys c.args.at c.requires.at _ _ c.index-shelf_lock.ensures c.index_mut-key.ensures.value)

pub returns-clause-keys : goal.returns-clause-keys
returns-clause-keys g c =
    let its = at _ _ c.requires.keys c.args.at c.requires.at _ _ c.index-shelf_lock.ensures c.index_mut-key.ensures.value in
    changed _ _ c.requires.keys c.args.at c.requires.at _ c.another.new.key c.index-shelf_lock.ensures (c.another.ensures.old _ its)

pub returns-clause-one : goal.returns-clause-one
returns-clause-one g c =
    let its = at _ _ c.requires.keys c.args.at c.requires.at _ _ c.index-shelf_lock.ensures c.index_mut-key.ensures.value in
    key_at _ c.args.at c.requires.at _ c.another.result c.index-shelf_lock.ensures (c.another.ensures.new _ its)
