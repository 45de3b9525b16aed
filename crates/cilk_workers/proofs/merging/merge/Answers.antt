use Rattle.std.proofs.Common.{sym, subst, ap₂, ◌∙◌}
use Rattle.cilk_workers.specs.Rows.{Run, run_of, between, IsGoodRun, EndsAt, BeginsAt}
use Rattle.cilk_workers.proofs.Merges.{three, three_near}
use Rattle.cilk_workers.proofs.merging.merge.Goals as goal

pub join3-requires-clause-near : goal.join3-requires-clause-near
join3-requires-clause-near c =
    let y = run_of c.args.yard.now c.args.parts.piece.reducers in
    three_near y c.in-Some-Some.left c.args.parts.piece c.in-Some-Some.right
    (subst (IsGoodRun y) c.in-Some-Some.is-0 c.requires.good.0) c.requires.good.1 (subst (IsGoodRun y) c.in-Some-Some.is-1 c.requires.good.2)
    (subst (λ (o : Run). EndsAt o c.args.parts.piece.from) c.in-Some-Some.is-0 c.requires.near.0) (sym (subst (λ (o : Run). BeginsAt o c.args.parts.piece.upto) c.in-Some-Some.is-1 c.requires.near.1))

pub returns-in-Ok-join3-clause-ok : goal.returns-in-Ok-join3-clause-ok
returns-in-Ok-join3-clause-ok c =
    let y = run_of c.args.yard.now c.args.parts.piece.reducers in
    three y c.in-Some-Some.left c.args.parts.piece c.in-Some-Some.right c.in-Ok-join3.all
    (subst (IsGoodRun y) c.in-Some-Some.is-0 c.requires.good.0) c.requires.good.1 (subst (IsGoodRun y) c.in-Some-Some.is-1 c.requires.good.2)
    (subst (λ (o : Run). EndsAt o c.args.parts.piece.from) c.in-Some-Some.is-0 c.requires.near.0) c.in-Ok-join3.ensures
    ∙ ap₂ (λ l r. between l c.args.parts.piece r) (sym c.in-Some-Some.is-0) (sym c.in-Some-Some.is-1)
