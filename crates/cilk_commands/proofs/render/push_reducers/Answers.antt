use Rattle.std.proofs.Common.{ap, ◌∙◌, ◌++◌, inl, inr}
use Rattle.cilk_commands.specs.Replies.{reducer_line}
use Rattle.cilk_commands.proofs.Lines.{reducer_end, reducer_more}
use Rattle.cilk_commands.proofs.render.push_reducers.Goals as goal

pub loop-name-preserved : goal.loop-name-preserved
loop-name-preserved c =
    reducer_more _ _ _ _ _ _ _ _ _ c.in-Some.ensures.steps.0 c.in-Some.ensures.steps.1 c.loop-name.invariant
    (c.in_ok-push_reducer.ensures ∙ ap (λ name. c.loop-name.text.items ++ reducer_line name c.in-Some.last.now) c.as_slice.ensures)

pub returns : goal.returns
returns c =
    elim c.in-None.ensures.steps [
      | inl e ↦ reducer_end _ _ _ _ (inl e.1.0) c.loop-name.invariant
      | inr e ↦ reducer_end _ _ _ _ (inr e.1.0) c.loop-name.invariant
    ]
