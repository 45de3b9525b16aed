use Rattle.std.proofs.Common.{rules, ◌≡◌, ◌++◌, [], ◌∷◌, length, refl, arith}
use Rattle.cilk_types.specs.declared.invocation.Invocation.TheVariants.{Call, Spawn}
use Rattle.cilk_scheduler.specs.declared.frame_state.Status.TheVariants.{Calling, Offered}
use Rattle.cilk_scheduler.proofs.Begun.{begins_as}
use Rattle.cilk_scheduler.proofs.beginning.begin.Goals as goal

pub returns-in-Call-clause-begins : goal.returns-in-Call-clause-begins
returns-in-Call-clause-begins c =
    let last : c.len-place.result ≡ length c.args.scheduler.now.frames.items = search rules in
    let pushed : c.push_reserved.new.self.items ≡ c.args.scheduler.now.frames.items ++ c.args.child ∷ [] = search rules in
    begins_as c.args.scheduler.now _ c.args.worker c.args.frame c.len-place.result c.args.how Call c.args.child c.args.count c.index_mut.result.now c.offer.new.own c.index_mut-2.result.now Calling c.in-Call.is refl last
    c.requires.works c.index_mut.ensures.value c.index_mut-2.ensures.value c.in_ok-offer.ensures.offers c.in_ok-offer.ensures.views refl c.push_reserved.new.self.items pushed c.start.ensures c.in_ok-add_cells.ensures (omega arith) refl refl refl

pub returns-in-Spawn-clause-begins : goal.returns-in-Spawn-clause-begins
returns-in-Spawn-clause-begins c =
    let last : c.len-place.result ≡ length c.args.scheduler.now.frames.items = search rules in
    let pushed : c.push_reserved.new.self.items ≡ c.args.scheduler.now.frames.items ++ c.args.child ∷ [] = search rules in
    begins_as c.args.scheduler.now _ c.args.worker c.args.frame c.len-place.result c.args.how Spawn c.args.child c.args.count c.index_mut.result.now c.offer.new.own c.index_mut-2.result.now (Offered c.args.worker) c.in-Spawn.is refl last
    c.requires.works c.index_mut.ensures.value c.index_mut-2.ensures.value c.in_ok-offer.ensures.offers c.in_ok-offer.ensures.views refl c.push_reserved.new.self.items pushed c.start-in-Spawn.ensures c.in_ok-add_cells.ensures refl refl refl refl
