use Rattle.std.proofs.Common.{ap, ◌∙◌}
use Rattle.cilk_hypermap.specs.Views.{found, or_unit, view_at}
use Rattle.cilk_hypermap.proofs.Fills.{keeps_value, merged_two, or_unit-merged, members_by_type}
use Rattle.cilk_hypermap.proofs.views.Views.merge.Goals as goal

pub returns-in-Ok-clause-views : goal.returns-in-Ok-clause-views
returns-in-Ok-clause-views g c j =
    let m = g.M.Monoid in
    let laws = g.met.M.Monoid in
    let l = view_at m.value c.args.left j in
    let r = view_at m.value c.args.right j in
    let member = members_by_type m.IsMember m.structure laws.lawful m.value laws.members (found c.args.right j) in
    c.absorb.ensures.views j
    ∙ merged_two m.structure m.IsMember laws.lawful l (view_at m.value c.room.new.left j) r (view_at m.value c.room.new.middle j) (view_at m.value c.new-none.result j) member (c.new-none.ensures j) (c.room.ensures.left j) (c.room.ensures.middle j)

pub returns-in-Ok-clause-values : goal.returns-in-Ok-clause-values
returns-in-Ok-clause-values g c j =
    let m = g.M.Monoid in
    let laws = g.met.M.Monoid in
    let left = members_by_type m.IsMember m.structure laws.lawful m.value laws.members (found c.args.left j) in
    let right = members_by_type m.IsMember m.structure laws.lawful m.value laws.members (found c.args.right j) in
    ap (or_unit m.structure) (returns-in-Ok-clause-views g c j) ∙ or_unit-merged m.structure m.IsMember laws.lawful (view_at m.value c.args.left j) (view_at m.value c.args.right j) left right

pub returns-clause-err : goal.returns-clause-err
returns-clause-err g c =
    let m = g.M.Monoid in
    let laws = g.met.M.Monoid in (
      λ j. keeps_value m.structure m.IsMember laws.lawful (view_at m.value c.args.left j) (view_at m.value c.room.new.left j) (c.room.ensures.left j),
      λ j. keeps_value m.structure m.IsMember laws.lawful (view_at m.value c.args.right j) (view_at m.value c.room.new.middle j) (c.room.ensures.middle j),
    )
