use Rattle.std.proofs.Common.{slice_set, ap, ◌∙◌}
use Rattle.cilk_scheduler.specs.FrameStates.{finished}
use Rattle.cilk_scheduler.specs.declared.frame_state.Status.TheVariants.{Finished}
use Rattle.cilk_scheduler.proofs.Changing.{changed_at}
use Rattle.cilk_scheduler.proofs.frame_states.finish.Goals as goal

pub returns : goal.returns
returns c =
    let frames = c.args.frames.now.items in
    let a = c.index_mut.result.now in
    let x = a.cursor in
    ap (λ o. slice_set frames c.args.frame (record a { cursor = record x { status = Finished; cursor = o } })) c.take.ensures.after
    ∙ changed_at finished frames c.args.frame a c.index_mut.ensures.value c.requires
