use Rattle.std.proofs.Common.{◌+◌, ap}
use Rattle.cilk_frames.specs.declared.activation.Activation.{Activation}
use Rattle.cilk_join.specs.Joins.{MayArrive}
use Rattle.cilk_scheduler.specs.Events.{block_in}
use Rattle.cilk_scheduler.specs.declared.frame_state.FrameState.{FrameState}
use Rattle.cilk_scheduler.proofs.Placed.{get_there}
use Rattle.cilk_schedule.proofs.Arriving.{on_if, own_of}
use Rattle.cilk_schedule.proofs.Workers.{same_at}
use Rattle.std.proofs.Common.{true, sym, subst}
use Rattle.cilk_schedule.proofs.arrivals.bring_own.Goals as goal

pub returns-clause-own : goal.returns-clause-own
returns-clause-own c =
    on_if c.bring.result c.bring.ensures.brings
    (λ passes h a at q may.
    let list = c.args.frames.now.items in
    let first = get_there list c.args.frame c.index.result.now c.index.ensures c.requires.here in
    let one = ap (λ (z : Activation FrameState). let x = z.cursor in x.children + 1) (same_at list c.args.frame c.index.result.now a first at) in
    own_of list c.bring.new.frames.items c.args.workers.now.items c.bring.new.workers.items c.args.worker c.args.frame a at (c.index.result.now.cursor.children + 1) passes one q
    (h a at (subst (λ n. let x = a.cursor in MayArrive (block_in x.join) n true) (sym one) (may q))))
