use Rattle.std.proofs.Common.{ap, sym, ◌∙◌, subst}
use Rattle.cilk_workers.specs.Rows.{Row, Rows, RunValue, between, rows, run_of, yard_of, MetRows, IsGood, FitsIn, placed_in}
use Rattle.cilk_join.proofs.AwaitedRows.{placed_by, restored}
use Rattle.cilk_workers.proofs.Rows.{beside_it, met_on}
use Rattle.cilk_workers.proofs.runs.Runs.put.Goals as goal

pub merge-requires-clause-good : goal.merge-requires-clause-good
merge-requires-clause-good c =
    let y : RunValue = run_of c.self.inside.of.value c.self.inside.reducers.value in
    let h = beside_it y c.args.yard.now c.self.inside.row c.args.key c.open-place.result.0 c.args.piece c.open-place.result.1 (ap (λ (j : Rows). yard_of j.of) c.self.view_is ∙ c.requires.yard)
    c.open-place.ensures.place c.open-place.ensures.parts c.self.invariant
    (subst (λ (j : Rows). IsGood j.of c.args.piece) (sym c.self.view_is) c.requires.good)
    (subst (λ (j : Rows). FitsIn j c.args.key c.args.piece) (sym c.self.view_is) c.requires.fits) in
    h.0

pub merge-requires-clause-near : goal.merge-requires-clause-near
merge-requires-clause-near c =
    let y : RunValue = run_of c.self.inside.of.value c.self.inside.reducers.value in
    let h = beside_it y c.args.yard.now c.self.inside.row c.args.key c.open-place.result.0 c.args.piece c.open-place.result.1 (ap (λ (j : Rows). yard_of j.of) c.self.view_is ∙ c.requires.yard)
    c.open-place.ensures.place c.open-place.ensures.parts c.self.invariant
    (subst (λ (j : Rows). IsGood j.of c.args.piece) (sym c.self.view_is) c.requires.good)
    (subst (λ (j : Rows). FitsIn j c.args.key c.args.piece) (sym c.self.view_is) c.requires.fits) in
    (h.1, h.2)

pub invariant_of-self : goal.invariant_of-self
invariant_of-self c =
    let y : RunValue = run_of c.self.inside.of.value c.self.inside.reducers.value in
    let r : Row = c.self.inside.row in
    let e = c.close.ensures ∙ placed_by between r c.open-place.new.self c.args.key c.open-place.result.0 c.args.piece c.in-Ok.run' c.open-place.result.1 c.open-place.ensures.place c.open-place.ensures.parts c.open-place.ensures.new c.in-Ok.ensures.ok in
    subst (λ (r : Row). MetRows (rows y r)) (sym e) (met_on y r.run r.waits c.args.key c.args.piece
    (subst (λ (j : Rows). IsGood j.of c.args.piece) (sym c.self.view_is) c.requires.good) c.self.invariant
    (subst (λ (j : Rows). FitsIn j c.args.key c.args.piece) (sym c.self.view_is) c.requires.fits))

pub invariant_of-self-in-Err : goal.invariant_of-self-in-Err
invariant_of-self-in-Err c =
    let y : RunValue = run_of c.self.inside.of.value c.self.inside.reducers.value in
    let e = c.restore.ensures.new ∙ restored c.self.inside.row c.open-place.new.self c.open-place.result.0 c.args.piece c.open-place.result.1 c.open-place.ensures.parts c.open-place.ensures.new c.in-Err.parts.left c.in-Err.parts.right c.in-Err.ensures.left c.in-Err.ensures.right in
    subst (λ (r : Row). MetRows (rows y r)) (sym e) c.self.invariant

pub returns-in-Ok-clause-ok : goal.returns-in-Ok-clause-ok
returns-in-Ok-clause-ok c =
    let y : RunValue = run_of c.self.inside.of.value c.self.inside.reducers.value in
    let e = c.close.ensures ∙ placed_by between c.self.inside.row c.open-place.new.self c.args.key c.open-place.result.0 c.args.piece c.in-Ok.run' c.open-place.result.1 c.open-place.ensures.place c.open-place.ensures.parts c.open-place.ensures.new c.in-Ok.ensures.ok in
    ap (rows y) e ∙ ap (λ (j : Rows). placed_in j c.args.key c.args.piece) c.self.view_is

pub returns-in-Err-clause-unchanged : goal.returns-in-Err-clause-unchanged
returns-in-Err-clause-unchanged c =
    let y : RunValue = run_of c.self.inside.of.value c.self.inside.reducers.value in
    let e = c.restore.ensures.new ∙ restored c.self.inside.row c.open-place.new.self c.open-place.result.0 c.args.piece c.open-place.result.1 c.open-place.ensures.parts c.open-place.ensures.new c.in-Err.parts.left c.in-Err.parts.right c.in-Err.ensures.left c.in-Err.ensures.right in
    ap (rows y) e ∙ c.self.view_is
