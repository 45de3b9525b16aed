use Rattle.std.proofs.Common.{sym, subst}
use Rattle.cilk_workers.specs.Answers.{PassesWhole}
use Rattle.cilk_workers.specs.Boxes.{HoldsBlock}
use Rattle.cilk_tree.specs.Columns.{IsFirstSpawn}
use Rattle.cilk_workers.specs.Rows.{RunValue}
use Rattle.cilk_workers.proofs.Boxes.{by_first}
use Rattle.cilk_workers.proofs.context.WorkerContext.arrive_at.Goals as goal

pub arrive-requires-clause-first : goal.arrive-requires-clause-first
arrive-requires-clause-first g c = λ low.
    let found = c.args.found.now in
    let first = subst (λ (y : RunValue). IsFirstSpawn y.event_order found.sync c.args.first) (sym c.requires.run.0) c.requires.first in
    by_first found.rows.of.event_order found.sync c.args.first c.args.arrival.piece first (c.wait_unless_fits.ensures.first low)

pub returns-in-Ok-Passes-clause-whole : goal.returns-in-Ok-Passes-clause-whole
returns-in-Ok-Passes-clause-whole g c =
    let found = c.args.found.now in
    subst (λ (y : RunValue). HoldsBlock y.event_order found.sync c.in-Ok-Passes.piece) c.requires.run.0
    (subst (PassesWhole found.rows.of.event_order found.sync) c.in-Ok-Passes.field-0-is c.in-Ok-Passes.ensures.whole)
