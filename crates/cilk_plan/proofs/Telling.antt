-- The event orders that an accepted program makes of its plan: `has_event_order`, `along_it`,
-- `own_is_the_plan`. Of a result's value: `for_ok`.
use Rattle.std.specs.declared.result.Result.{Result}
use Rattle.std.specs.declared.result.Result.TheVariants.{Ok, Err}
use Rattle.std.specs.Result.{IfOk}
use Rattle.std.proofs.Common.{◌≡◌, ℤ, List, refl, sym, ◌∙◌, subst}
use Rattle.cilk_program.specs.Sources.{source}
use Rattle.cilk_tree.specs.declared.event_order.EventOrder.{EventOrder}
use Rattle.cilk_tree.specs.Values.{HasValues}
use Rattle.cilk_tree.specs.Along.{IsAlong}
use Rattle.cilk_tree.specs.Planned.{planned}
use Rattle.cilk_determinacy.specs.Words.{HasWords, InputsAreWords}
use Rattle.cilk_replay.specs.EventOrders.{event_order_on, OwnEventOrder, EventOrdersAlongHaveValues}
use Rattle.cilk_checker.specs.Determinate.{AcceptedRun, HasDeterminateRun}
use Rattle.cilk_plan.specs.Plans.{HasEventOrderOn, IsPlanOf, IsEventOrderOn}

pub has_event_order : (a : AcceptedRun) → HasDeterminateRun a → HasWords (source a.program) → InputsAreWords a.input → (plan : EventOrder) → IsPlanOf a plan → (inputs : List ℤ) → HasEventOrderOn a plan.opening inputs
has_event_order a run words own plan is inputs =
    let ran = run.1.ended.ran in (
      event_order_on (source a.program) inputs ran.run a.trace plan.opening,
      record {
        run = ran.run;
        of_run = record { named = a.program.well_named; words = words; inputs_words = own; outcome = a.outcome; runs = ran.serial; opens = is.opens };
        is = refl;
      },
    )

pub along_it : EventOrdersAlongHaveValues → (a : AcceptedRun) (plan : EventOrder) → IsPlanOf a plan → (inputs : List ℤ) → InputsAreWords inputs → (s : EventOrder) → IsEventOrderOn a plan.opening inputs s → IsAlong plan s × HasValues s
along_it law a plan is inputs words s told =
    let h = law (source a.program) a.input inputs told.run a.trace plan.opening told.of_run words in
    subst (λ (z : EventOrder). IsAlong plan z × HasValues z) (sym told.is) (subst (λ (z : EventOrder). IsAlong z (event_order_on (source a.program) inputs told.run a.trace plan.opening)) (sym is.event_order) h.0, h.1)

pub own_is_the_plan : OwnEventOrder → (a : AcceptedRun) (plan : EventOrder) → IsPlanOf a plan → (inputs : List ℤ) (s : EventOrder) → IsEventOrderOn a plan.opening inputs s → inputs ≡ a.input → s ≡ plan
own_is_the_plan law a plan is inputs s told same =
    told.is ∙ subst (λ (xs : List ℤ). event_order_on (source a.program) xs told.run a.trace plan.opening ≡ planned a.trace plan.opening) (sym same) (law (source a.program) a.input told.run a.trace plan.opening told.of_run) ∙ sym is.event_order

pub for_ok : {A E : Type 0} (P Q : A → Type 0) (r : Result A E) → ((x : A) → P x → Q x) → IfOk r P → IfOk r Q
for_ok P Q (Ok x) f h = f x h
for_ok P Q (Err e) f h = tt
