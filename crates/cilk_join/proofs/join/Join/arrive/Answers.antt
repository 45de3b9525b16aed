use Rattle.std.proofs.Common.{◌≡◌, ◌∙◌, sym, ap, subst, true, Some}
use Rattle.cilk_join.specs.Products.{Product, product, between}
use Rattle.cilk_join.specs.AwaitedRows.{row_shown}
use Rattle.cilk_join.specs.Rows.{Row}
use Rattle.cilk_join.specs.Joins.{JoinView, Answers, arrived_at, noted, passes}
use Rattle.cilk_join.specs.Waits.{shown}
use Rattle.cilk_join.proofs.AwaitedRows.{placed_shown, restored_shown}
use Rattle.cilk_join.proofs.Rows.{passes_some}
use Rattle.cilk_join.proofs.join.Join.arrive.Goals as goal

pub answer-requires : goal.answer-requires
answer-requires c =
    let j = shown c.args.self.now in
    let now : shown c.note.new.self ≡ arrived_at j c.args.key c.args.last (product c.args.views) =
    c.note.ensures ∙ ap (λ (r : Row Product). noted (record j { row = r }) c.args.key c.args.last)
    (ap (row_shown product) c.close.ensures ∙ placed_shown product between c.args.self.now.row c.open-place.new.self c.args.key c.open-place.result.0 c.args.views c.in-Ok.run' c.open-place.result.1 c.open-place.ensures.place c.open-place.ensures.parts c.open-place.ensures.new c.in-Ok.ensures.ok) in
    subst (λ (j : JoinView). passes j ≡ true → (p : Product) × (let r = j.row in r.run ≡ Some p)) (sym now) (passes_some j c.args.key c.args.last (product c.args.views))

pub returns-in-Ok-clause-ok : goal.returns-in-Ok-clause-ok
returns-in-Ok-clause-ok c =
    let j = shown c.args.self.now in
    let now : shown c.note.new.self ≡ arrived_at j c.args.key c.args.last (product c.args.views) =
    c.note.ensures ∙ ap (λ (r : Row Product). noted (record j { row = r }) c.args.key c.args.last)
    (ap (row_shown product) c.close.ensures ∙ placed_shown product between c.args.self.now.row c.open-place.new.self c.args.key c.open-place.result.0 c.args.views c.in-Ok.run' c.open-place.result.1 c.open-place.ensures.place c.open-place.ensures.parts c.open-place.ensures.new c.in-Ok.ensures.ok) in
    subst (λ (j : JoinView). Answers j c.answer.result (shown c.answer.new.self)) now c.answer.ensures

pub returns-in-Err-clause-unchanged : goal.returns-in-Err-clause-unchanged
returns-in-Err-clause-unchanged c = ap (λ (r : Row Product). record (shown c.args.self.now) { row = r })
    (ap (row_shown product) c.restore.ensures.new ∙ restored_shown product c.args.self.now.row c.open-place.new.self c.open-place.result.0 c.args.views c.open-place.result.1 c.open-place.ensures.parts c.open-place.ensures.new c.in-Err.parts.left c.in-Err.parts.right c.in-Err.ensures.left c.in-Err.ensures.right)
