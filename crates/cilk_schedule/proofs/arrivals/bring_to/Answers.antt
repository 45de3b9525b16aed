use Rattle.std.proofs.Common.{refl, subst}
use Rattle.cilk_join.specs.Products.{product}
use Rattle.cilk_join.specs.Waits.{shown}
use Rattle.cilk_scheduler.specs.Events.{Arrives}
use Rattle.cilk_schedule.specs.Passing.{Arrived}
use Rattle.cilk_schedule.proofs.Stepping.{if_ok}
use Rattle.cilk_schedule.proofs.arrivals.bring_to.Goals as goal

pub returns-then-fresh-clause-comes : goal.returns-then-fresh-clause-comes
returns-then-fresh-clause-comes c =
    if_ok c.arrive.result c.arrive.ensures.ok
    (λ passes arrives may. Arrived c.in-Some.join (let l = c.in-Some.join in record l { value = c.arrive.new.join }) c.in-Some.is refl (subst (λ j. Arrives (shown j) c.args.key c.args.last (product c.args.views.now) passes (shown c.arrive.new.join) c.arrive.new.views) c.deref_mut.ensures.value arrives))
