use Rattle.std.proofs.Common.{refl, ap, ◌∙◌}
use Rattle.cilk_frames.specs.declared.activation.Activation.{Activation}
use Rattle.cilk_scheduler.specs.declared.frame_state.FrameState.{FrameState}
use Rattle.cilk_scheduler.proofs.Placed.{get_there}
use Rattle.cilk_schedule.proofs.Arriving.{own_passed}
use Rattle.cilk_schedule.proofs.Workers.{same_at}
use Rattle.cilk_schedule.proofs.arrivals.bring_once.Goals as goal

pub returns-then-index-clause-own : goal.returns-then-index-clause-own
returns-then-index-clause-own c = λ a at may.
    let list = c.args.frames.now.items in
    let first = get_there list c.args.frame c.index.result.now c.index.ensures c.requires.here in
    let same = same_at list c.args.frame a c.index.result.now at first in
    own_passed list list c.args.workers.now.items c.args.workers.now.items c.args.worker c.args.frame a at c.requires.works (ap (λ (z : Activation FrameState). let x = z.cursor in x.merged) same ∙ c.if-index.true) refl refl

pub returns-clause-own : goal.returns-clause-own
returns-clause-own c = λ a at may.
    let list = c.args.frames.now.items in
    let first = get_there list c.args.frame c.index.result.now c.index.ensures c.requires.here in
    let same = same_at list c.args.frame a c.index.result.now at first in
    c.in_ok-_passes.ensures.own a at (ap (λ (z : Activation FrameState). let x = z.cursor in x.merged) same ∙ c.if-index.false) may
