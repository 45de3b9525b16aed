use Rattle.cilk_monoid.specs.declared.kind.MonoidKind.TheVariants.{Add, Least, Greatest, Append, Affine}
use Rattle.cilk_hypermap.proofs.Merges.{two_views, two_values, values_kept, joins_ranges}
use Rattle.cilk_hypermap.proofs.hypermap.Hypermap.merge.Goals as goal

pub returns-in-Ok-clause-views : goal.returns-in-Ok-clause-views
returns-in-Ok-clause-views c =
    let at = two_views c.args.left c.room.new.left c.args.right c.room.new.middle c.new-none.result c.absorb.new.self in
    let v = c.absorb.ensures.views in
    let n = c.new-none.ensures in
    let l = c.room.ensures.left in
    let r = c.room.ensures.middle in
    (at Add v.0 n.0 l.0 r.0, at Least v.1 n.1 l.1 r.1, at Greatest v.2 n.2 l.2 r.2, at Append v.3 n.3 l.3 r.3, at Affine v.4 n.4 l.4 r.4)

pub returns-in-Ok-clause-values : goal.returns-in-Ok-clause-values
returns-in-Ok-clause-values c =
    let at = two_values c.args.left c.room.new.left c.args.right c.room.new.middle c.new-none.result c.absorb.new.self in
    let v = c.absorb.ensures.views in
    let n = c.new-none.ensures in
    let l = c.room.ensures.left in
    let r = c.room.ensures.middle in
    (at Add v.0 n.0 l.0 r.0, at Least v.1 n.1 l.1 r.1, at Greatest v.2 n.2 l.2 r.2, at Append v.3 n.3 l.3 r.3, at Affine v.4 n.4 l.4 r.4)

pub returns-clause-err : goal.returns-clause-err
returns-clause-err c =
    let left = values_kept c.args.left c.room.new.left in
    let right = values_kept c.args.right c.room.new.middle in
    let l = c.room.ensures.left in
    let r = c.room.ensures.middle in (
      (left Add _ l.0, left Least _ l.1, left Greatest _ l.2, left Append _ l.3, left Affine _ l.4),
      (right Add _ r.0, right Least _ r.1, right Greatest _ r.2, right Append _ r.3, right Affine _ r.4),
    )

pub returns-in-Ok-clause-ranges : goal.returns-in-Ok-clause-ranges
returns-in-Ok-clause-ranges c = joins_ranges c.args.left c.args.right c.absorb.new.self (returns-in-Ok-clause-values c)
