use Rattle.std.proofs.Common.{◌≡◌, IsSome, sym, ap, ◌∙◌, refl, subst, arith}
use Rattle.std.specs.Option.{option_map, unwrap_or}
use Rattle.cilk_hypermap.specs.Views.{found, size_at}
use Rattle.cilk_hypermap.proofs.Absorbing.{present_after, room_after, views_after, spent_after}
use Rattle.cilk_hypermap.proofs.views.Views.absorb.Goals as goal

pub multiply-requires-clause-present : goal.multiply-requires-clause-present
multiply-requires-clause-present g c =
    let m = g.M.Monoid in
    let k = c.in-Some.instance in
    c.loop-instance.invariant.present k (subst IsSome (sym (ap (option_map m.value) c.in-Some.ensures.view)) refl)

pub multiply-requires-clause-room : goal.multiply-requires-clause-room
multiply-requires-clause-room g c =
    let m = g.M.Monoid in
    let k = c.in-Some.instance in
    let size : size_at m.structure m.value c.loop-instance.right k ≡ m.structure.size (m.value c.in-Some.view) = ap (λ o. unwrap_or (option_map m.structure.size (option_map m.value o)) 0) c.in-Some.ensures.view in
    omega (arith, size, c.loop-instance.invariant.room k)

pub loop-instance-preserved : goal.loop-instance-preserved
loop-instance-preserved g c =
    let m = g.M.Monoid in
    let k = c.in-Some.instance in
    let b = c.in-Some.view in
    let before = c.loop-instance.invariant in
    let l = found c.loop-instance.self in
    let l' = found c.multiply.new.self in
    let r = found c.loop-instance.right in
    let r' = found c.pop.new.self in
    let taken = c.in-Some.ensures.rest in
    let at = c.in-Some.ensures.view in
    record {
      present = present_after m.structure m.value m.reserved l l' r r' k b taken at c.multiply.ensures.views c.multiply.ensures.room before.present;
      room = room_after m.structure m.value m.reserved l l' r r' k b taken at c.multiply.ensures.views c.multiply.ensures.room before.present before.room;
      views = λ j. views_after m.structure m.value m.reserved l l' r r' k b taken at c.multiply.ensures.views c.multiply.ensures.room before.present j ∙ before.views j;
      spent = λ j. omega (arith, spent_after m.structure m.value m.reserved l l' r r' k b taken at c.multiply.ensures.views c.multiply.ensures.room before.present j, before.spent j);
    }
