use Rattle.std.proofs.Common.{refl}
use Rattle.cilk_scheduler.proofs.Placed.{get_there}
use Rattle.cilk_schedule.specs.Ends.{ReturnsUp}
use Rattle.cilk_schedule.proofs.ending.go_back.Goals as goal

pub returns-clause-departs : goal.returns-clause-departs
returns-clause-departs c = λ code v u finds at.
    let b = c.args.scheduler.now in
    let a = c.index.result.now in
    let above = c.index-2.result.now in
    let here = get_there b.frames.items c.args.frame a c.index.ensures c.requires.here in
    let up = get_there b.frames.items a.cursor.parent above c.index-2.ensures (c.requires.parent a here) in
    let q = finds c.requires.child a above here up in
    ReturnsUp c.requires.child a above c.reclaim-scheduler.new.workers.items here (c.requires.kept a here) up (c.reclaim-scheduler.ensures.seeks q.0) c.hold.ensures.held c.hold.ensures.has refl
