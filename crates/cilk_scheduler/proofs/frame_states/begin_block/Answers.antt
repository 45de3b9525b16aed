use Rattle.std.proofs.Common.{false, None, ap, ◌∙◌}
use Rattle.cilk_scheduler.specs.declared.frame_state.FrameState.{FrameState}
use Rattle.cilk_scheduler.specs.FrameStates.{changed, stranded}
use Rattle.cilk_scheduler.proofs.Changing.{changed_at, changed_twice}
use Rattle.cilk_scheduler.proofs.frame_states.begin_block.Goals as goal

-- its block is a new one
abbrev cleared : FrameState → FrameState
cleared x = record x { join = None; merged = false }

pub returns : goal.returns
returns c =
    let frames = c.args.frames.now.items in
    c.begin_strand.ensures ∙ ap (λ l. changed stranded l c.args.frame) (changed_at cleared frames c.args.frame c.index_mut.result.now c.index_mut.ensures.value c.requires.here)
    ∙ changed_twice stranded cleared frames c.args.frame
