use Rattle.std.proofs.Common.{refl}
use Rattle.cilk_monoid.specs.declared.kind.MonoidKind.TheVariants.{Add, Least, Greatest, Append, Affine}
use Rattle.cilk_hypermap.proofs.Merges.{three_views, three_values, values_kept, present_in_product}
use Rattle.cilk_hypermap.proofs.hypermap.Hypermap.merge3.Goals as goal

pub absorb-requires-in-Ok-clause-present : goal.absorb-requires-in-Ok-clause-present
absorb-requires-in-Ok-clause-present c =
    let at = present_in_product c.room.new.left c.room.new.middle c.args.right c.absorb.new.self in
    let v = c.absorb.ensures.views in
    let h = c.in-Ok.ensures.room in (
      at Add v.0 (λ j s. h.0.in_left j (h.0.in_middle j s)),
      at Least v.1 (λ j s. h.1.in_left j (h.1.in_middle j s)),
      at Greatest v.2 (λ j s. h.2.in_left j (h.2.in_middle j s)),
      at Append v.3 (λ j s. h.3.in_left j (h.3.in_middle j s)),
      at Affine v.4 (λ j s. h.4.in_left j (h.4.in_middle j s)),
    )

pub returns-in-Ok-clause-views : goal.returns-in-Ok-clause-views
returns-in-Ok-clause-views c =
    let at = three_views c.args.left c.room.new.left c.args.middle c.room.new.middle c.args.right c.absorb.new.self c.absorb-in-Ok.new.self in
    let v = c.absorb.ensures.views in
    let w = c.absorb-in-Ok.ensures.views in
    let l = c.room.ensures.left in
    let m = c.room.ensures.middle in
    (at Add v.0 w.0 l.0 m.0, at Least v.1 w.1 l.1 m.1, at Greatest v.2 w.2 l.2 m.2, at Append v.3 w.3 l.3 m.3, at Affine v.4 w.4 l.4 m.4)

pub returns-in-Ok-clause-values : goal.returns-in-Ok-clause-values
returns-in-Ok-clause-values c =
    let at = three_values c.args.left c.room.new.left c.args.middle c.room.new.middle c.args.right c.absorb.new.self c.absorb-in-Ok.new.self in
    let v = c.absorb.ensures.views in
    let w = c.absorb-in-Ok.ensures.views in
    let l = c.room.ensures.left in
    let m = c.room.ensures.middle in
    (at Add v.0 w.0 l.0 m.0, at Least v.1 w.1 l.1 m.1, at Greatest v.2 w.2 l.2 m.2, at Append v.3 w.3 l.3 m.3, at Affine v.4 w.4 l.4 m.4)

pub returns-in-Err-clause-err : goal.returns-in-Err-clause-err
returns-in-Err-clause-err c =
    let left = values_kept c.args.left c.room.new.left in
    let middle = values_kept c.args.middle c.room.new.middle in
    let l = c.room.ensures.left in
    let m = c.room.ensures.middle in (
      (left Add _ l.0, left Least _ l.1, left Greatest _ l.2, left Append _ l.3, left Affine _ l.4),
      (middle Add _ m.0, middle Least _ m.1, middle Greatest _ m.2, middle Append _ m.3, middle Affine _ m.4),
      (λ j. refl, λ j. refl, λ j. refl, λ j. refl, λ j. refl),
    )
