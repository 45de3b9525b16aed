use Rattle.std.proofs.Common.{Some, w64, subst}
use Rattle.std.proofs.lemmas.Int.{to_z-of_z}
use Rattle.cilk_monoid.specs.Kinds.{structure_of}
use Rattle.cilk_hypermap.specs.Hypermap.{ChangesIn, value_in}
use Rattle.cilk_scheduler.proofs.reducers.update.Goals as goal

pub returns-clause-views : goal.returns-clause-views
returns-clause-views c =
    let kind = c.args.kind in
    subst (λ v. ChangesIn c.args.views.now c.update.new.self kind c.args.instance (Some ((structure_of kind).combine (value_in c.args.views.now kind c.args.instance) ((structure_of kind).single v)))) (to_z-of_z w64 c.args.value c.ranges.value) c.in_ok-update.ensures.ok
