use Rattle.std.proofs.Common.{◌≡◌, ◌+◌, ◌<◌, ◌≤◌, ◌&&◌, cond, None, length, get_or, refl, ap, ◌∙◌, arith}
use Rattle.std.proofs.lemmas.List.{take_all}
use Rattle.cilk_types.specs.declared.event.Instance.{Instance}
use Rattle.cilk_monoid.specs.Kinds.{same_kind}
use Rattle.cilk_monoid.specs.Ranges.{same_instance}
use Rattle.cilk_monoid.specs.declared.kind.MonoidKind.TheVariants.{Add}
use Rattle.cilk_hypermap.specs.Hypermap.{view_in}
use Rattle.cilk_hypermap.proofs.Merges.{each_kind}
use Rattle.cilk_scheduler.specs.Retired.{without_own}
use Rattle.cilk_scheduler.proofs.Retired.{without_next}
use Rattle.cilk_scheduler.proofs.own_reducers.retire.Goals as goal

pub each-preserved : goal.each-preserved
each-preserved c = λ k j.
    let n = c.each.number in
    let kind = get_or c.args.kinds.now n Add in
    let low : n < length c.args.kinds.now = omega (arith, c.each-test.true) in
    let i : Instance = record { frame = c.args.frame; place = c.args.first + n } in
    let now = each_kind (λ k. (j : Instance) → view_in c.take-last.new.self k j ≡ cond (same_kind kind k && same_instance i j) None (view_in c.each.views k j)) c.take-last.ensures.views k j in
    without_next c.args.frame c.args.first c.args.kinds.now n kind Add k j (view_in c.args.views.now k j) (view_in c.each.views k j) (view_in c.take-last.new.self k j) low refl (c.each.invariant k j) now

pub returns : goal.returns
returns c = λ k j.
    let all : length c.args.kinds.now ≤ c.each.number = omega (arith, c.each-test.false) in
    c.each.invariant k j ∙ ap (λ l. without_own c.args.frame c.args.first l k j (view_in c.args.views.now k j)) (take_all c.each.number c.args.kinds.now all)
