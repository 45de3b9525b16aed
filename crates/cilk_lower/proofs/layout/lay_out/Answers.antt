use Rattle.std.proofs.Common.{map, refl, ap, ◌∙◌}
use Rattle.cilk_program.specs.Programs.{function}
use Rattle.cilk_program.specs.declared.program.GlobalReducer.{GlobalReducer}
use Rattle.cilk_program.specs.declared.program.Loop.{Loop}
use Rattle.cilk_lower.specs.Layout.{frame_of}
use Rattle.cilk_lower.proofs.Laid.{lays_out}
use Rattle.cilk_lower.proofs.layout.lay_out.Goals as goal

pub returns : goal.returns
returns c =
    let p = c.args.program.now in
    lays_out p.globals p.reducers.items p.functions.items p.loops.items p.main _
    (c.in_ok-function_frames.ensures ∙ ap (map (λ f. frame_of (function f))) c.deref-2.ensures.value) (c.in_ok-loop_cells.ensures ∙ ap (map (λ (l : Loop). l.cells)) c.deref-3.ensures.value)
    (c.new.ensures ∙ c.in_ok-from_slice.ensures.items ∙ c.as_slice.ensures) (c.in_ok-global_kinds.ensures ∙ ap (map (λ (r : GlobalReducer). r.kind)) c.deref.ensures.value) refl c.is_plain.ensures
