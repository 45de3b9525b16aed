use Rattle.std.proofs.Common.{refl, subst}
use Rattle.cilk_frames.specs.declared.activation.Activation.{Activation}
use Rattle.cilk_join.specs.Joins.{MayArrive}
use Rattle.cilk_scheduler.specs.Events.{block_in}
use Rattle.cilk_scheduler.specs.declared.frame_state.FrameState.{FrameState}
use Rattle.cilk_scheduler.proofs.Changing.{changed_at}
use Rattle.cilk_scheduler.proofs.Placed.{get_there}
use Rattle.cilk_scheduler.proofs.Viewing.{viewing_at}
use Rattle.cilk_schedule.proofs.Answering.{always}
use Rattle.cilk_schedule.proofs.Quieting.{joins}
use Rattle.cilk_schedule.proofs.Standing.{on_err_stand, stand_joined}
use Rattle.cilk_schedule.proofs.Stepping.{if_ok}
use Rattle.cilk_schedule.proofs.Workers.{same_at}
use Rattle.cilk_schedule.proofs.arrivals.bring.Goals as goal

pub returns-clause-frames : goal.returns-clause-frames
returns-clause-frames c =
    always c.bring_to.result (joins c.bring_to.new.frame_state c.args.frames.now.items _ c.args.frame c.index_mut-2.result.now c.index_mut-2.ensures.value c.requires.here c.bring_to.ensures.same refl)

pub returns-clause-brings : goal.returns-clause-brings
returns-clause-brings c =
    if_ok c.bring_to.result c.bring_to.ensures.comes
    (λ passes h a at may.
    let list = c.args.frames.now.items in
    let workers = c.args.workers.now.items in
    let x = c.index_mut-2.result.now in
    let u = c.index_mut.result.now in
    let here = get_there list c.args.frame x c.index_mut-2.ensures.value c.requires.here in
    record {
      frame_state = x;
      worker = u;
      brought = c.bring_to.new.frame_state;
      views = c.bring_to.new.views;
      sits = here;
      at = get_there workers c.args.worker u c.index_mut.ensures.value c.requires.works;
      comes = h (subst (λ (z : Activation FrameState). let y = z.cursor in MayArrive (block_in y.join) c.args.key c.args.last) (same_at list c.args.frame a x at here) may);
      frames_are = changed_at (λ _. c.bring_to.new.frame_state) list c.args.frame x c.index_mut-2.ensures.value c.requires.here;
      workers_are = viewing_at c.bring_to.new.views workers c.args.worker u c.index_mut.ensures.value c.requires.works;
    })

pub returns-clause-stands : goal.returns-clause-stands
returns-clause-stands c =
    on_err_stand c.bring_to.result c.args.frames.now.items _
    (stand_joined c.bring_to.new.frame_state c.args.frames.now.items _ c.args.frame c.index_mut-2.result.now c.index_mut-2.ensures.value c.requires.here c.bring_to.ensures.same refl)
