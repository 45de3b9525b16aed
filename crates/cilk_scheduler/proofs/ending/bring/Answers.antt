use Rattle.std.proofs.Common.{false, Result, Ok, Err, IfOk, refl, subst}
use Rattle.cilk_join.specs.Products.{product}
use Rattle.cilk_join.specs.Waits.{shown}
use Rattle.cilk_scheduler.specs.EndParts.{ToJoin}
use Rattle.cilk_scheduler.specs.Events.{Arrives}
use Rattle.cilk_scheduler.proofs.ending.bring.Goals as goal

if_more : {A E : Type 0} (P Q : A → Type 0) → ((a : A) → P a → Q a) → (r : Result A E) → IfOk r P → IfOk r Q
if_more P Q more (Ok a) h = more a h
if_more P Q more (Err e) h = h

pub returns-clause-brings : goal.returns-clause-brings
returns-clause-brings c =
    if_more _ _
    (λ passes arrives. ToJoin c.in-Some.join (let l = c.in-Some.join in record l { value = c.arrive.new.join }) c.in-Some.is refl (subst (λ j. Arrives (shown j) c.args.key false (product c.args.views.now) passes (shown c.arrive.new.join) c.arrive.new.views) c.deref_mut.ensures.value arrives))
    c.arrive.result c.arrive.ensures.ok
