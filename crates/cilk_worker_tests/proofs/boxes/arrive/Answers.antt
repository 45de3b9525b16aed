use Rattle.std.proofs.Common.{◌≡◌, ℕ, rules, subst, sym}
use Rattle.std.specs.Prelude.{IsTrue}
use Rattle.cilk_tree.specs.Columns.{IsFirstSpawn}
use Rattle.cilk_workers.specs.Rows.{RunValue}
use Rattle.cilk_workers.proofs.Boxes.{by_first}
use Rattle.cilk_worker_tests.proofs.boxes.arrive.Goals as goal

pub arrive-requires-clause-first : goal.arrive-requires-clause-first
arrive-requires-clause-first g c = λ low.
    let found = c.args.found.now in
    let block = c.in-Some.block in
    let told : IsTrue c.fits.result = search rules in
    let same : block.sync ≡ found.sync = search rules in
    let first = subst (λ (z : RunValue × ℕ). IsFirstSpawn z.0.event_order z.1 block.first) (λ i. (sym c.requires.run.0 i, same i)) c.in-Some.ensures.first in
    by_first found.rows.of.event_order found.sync block.first c.args.arrival.piece first ((c.fits.ensures.0 told).3 low)
