use Rattle.cilk_types.specs.declared.event.Event.TheVariants.{End}
use Rattle.cilk_replay.specs.Starts.{RangesHoldSpawns}
use Rattle.cilk_tree.specs.declared.kind.Kind.TheVariants as kinds
use Rattle.cilk_tree.specs.Word.{event}
use Rattle.cilk_workers.specs.Shared.{event_order_in}
use Rattle.cilk_workers.proofs.Due.{can_pass, chain_follows, grown_good, here, passes}
use Rattle.cilk_workers.proofs.Held.{has_spawn, of_replay}
use Rattle.cilk_workers.proofs.OfKind.{no_sync, what_end}
use Rattle.cilk_workers.proofs.Spawned.{stuck}
use Rattle.cilk_workers.proofs.passing.ended.Goals as goal

pub end-requires-clause-next : goal.end-requires-clause-next
end-requires-clause-next c =
    let y = c.args.shared.now in
    let p = c.args.work.now.piece in
    let due = c.requires.due in
    let works = due.works in
    let is = due.kind_is in
    passes y p End works.good
    (can_pass y p works.good c.laws.ensures.order due.asked c.requires.more (what_end (event_order_in y) p.upto is c.requires.more) (no_sync (event (event_order_in y) p.upto) kinds.End is (λ q. cc q)))
    (here y c.args.work.now kinds.End due c.requires.more c.laws.ensures.same).1

pub end-requires-2-clause-end : goal.end-requires-2-clause-end
end-requires-2-clause-end c =
    let y = c.args.shared.now in
    let due = c.requires.due in
    chain_follows y c.args.work.now kinds.End due c.requires.more c.laws.ensures.same End (here y c.args.work.now kinds.End due c.requires.more c.laws.ensures.same).1

pub returns-else-end : goal.returns-else-end
returns-else-end c =
    let y = c.args.shared.now in
    let w = c.args.work.now in
    let due = c.requires.due in
    let works = due.works in
    let is = (here y w kinds.End due c.requires.more c.laws.ensures.same).1 in
    let good = (grown_good y w.piece c.end.new.self works.good c.end.ensures).0 in
    let next = stuck y w works c.laws.ensures.same (c.end-2.ensures.outermost c.if-end.false).1 is c.requires.more c.end.new.self c.end.ensures in
    let law : RangesHoldSpawns (event_order_in y) = of_replay RangesHoldSpawns y _ c.replay-else-end.ensures.replay c.replay-else-end.ensures.yard c.holds_spawns.ensures in (
      good,
      (
        (next.0, next.1, has_spawn y c.end.new.self next.0 good c.laws-else-end.ensures.begins c.laws-else-end.ensures.whole law next.1),
        (c.end.ensures, is),
      ),
    )
