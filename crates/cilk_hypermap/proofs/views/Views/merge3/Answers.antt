use Rattle.std.proofs.Common.{ap, ◌∙◌, refl}
use Rattle.cilk_hypermap.specs.Views.{found, merged, or_unit, view_at}
use Rattle.cilk_hypermap.proofs.Fills.{keeps_value, merged_room, merged_member, or_unit-merged, members_by_type}
use Rattle.cilk_hypermap.proofs.views.Views.merge3.Goals as goal

pub returns-in-Ok-clause-views : goal.returns-in-Ok-clause-views
returns-in-Ok-clause-views g c j =
    let m = g.M.Monoid in
    let laws = g.met.M.Monoid in
    let S = m.structure in
    let r = view_at m.value c.args.right j in
    let left = members_by_type m.IsMember S laws.lawful m.value laws.members (found c.args.left j) in
    let middle = members_by_type m.IsMember S laws.lawful m.value laws.members (found c.args.middle j) in
    let right = members_by_type m.IsMember S laws.lawful m.value laws.members (found c.args.right j) in
    c.absorb-in-Ok.ensures.views j ∙ ap (λ x. merged S x r) (c.absorb.ensures.views j)
    ∙ merged_room S m.IsMember laws.lawful (view_at m.value c.args.left j) (view_at m.value c.room.new.left j) (view_at m.value c.args.middle j) (view_at m.value c.room.new.middle j) r left middle right (c.room.ensures.left j) (c.room.ensures.middle j)

pub returns-in-Ok-clause-values : goal.returns-in-Ok-clause-values
returns-in-Ok-clause-values g c j =
    let m = g.M.Monoid in
    let laws = g.met.M.Monoid in
    let S = m.structure in
    let l = view_at m.value c.args.left j in
    let n = view_at m.value c.args.middle j in
    let r = view_at m.value c.args.right j in
    let left = members_by_type m.IsMember S laws.lawful m.value laws.members (found c.args.left j) in
    let middle = members_by_type m.IsMember S laws.lawful m.value laws.members (found c.args.middle j) in
    let right = members_by_type m.IsMember S laws.lawful m.value laws.members (found c.args.right j) in
    ap (or_unit S) (returns-in-Ok-clause-views g c j)
    ∙ or_unit-merged S m.IsMember laws.lawful (merged S l n) r (merged_member S m.IsMember laws.lawful l n left middle) right
    ∙ ap (λ x. S.combine x (or_unit S r)) (or_unit-merged S m.IsMember laws.lawful l n left middle)

pub returns-in-Err-clause-err : goal.returns-in-Err-clause-err
returns-in-Err-clause-err g c =
    let m = g.M.Monoid in
    let laws = g.met.M.Monoid in (
      λ j. keeps_value m.structure m.IsMember laws.lawful (view_at m.value c.args.left j) (view_at m.value c.room.new.left j) (c.room.ensures.left j),
      λ j. keeps_value m.structure m.IsMember laws.lawful (view_at m.value c.args.middle j) (view_at m.value c.room.new.middle j) (c.room.ensures.middle j),
      λ j. refl,
    )
