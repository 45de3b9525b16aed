use Rattle.cilk_checker.proofs.JudgedTexts.{resolved_right, resolved_wrong, spelled_wrong}
use Rattle.cilk_checker.proofs.judge.program.Goals as goal

pub returns-in_err-tree-clause-err : goal.returns-in_err-tree-clause-err
returns-in_err-tree-clause-err c =
    spelled_wrong c.from_residual.result c.in_err-tree.field-0.0 _ c.from_residual.ensures.1 c.in_err-tree.ensures.err

pub returns-clause-ok : goal.returns-clause-ok
returns-clause-ok c = resolved_right c.resolved.result _ c.in_ok-tree.tree c.in_ok-tree.ensures.ok
    c.resolved.ensures.ok

pub returns-clause-err : goal.returns-clause-err
returns-clause-err c = resolved_wrong c.resolved.result _ c.in_ok-tree.tree c.in_ok-tree.ensures.ok
    c.resolved.ensures.err
