use Rattle.std.proofs.Common.{ℤ, List, ◌++◌, ap, ◌∙◌}
use Rattle.cilk_plan.proofs.Having.{opened}
use Rattle.cilk_plan.proofs.planning.opening.Goals as goal

pub returns-clause-values : goal.returns-clause-values
returns-clause-values c =
    let globals = c.args.globals.now in
    let copied = c.in_ok-extend_from_slice.ensures.items ∙ ap (λ (l : List ℤ). l ++ globals) c.in_ok-values.ensures.items in
    opened globals _ _ c.args.cells _ c.requires.globals copied c.in_ok-resize.ensures.items
