use Rattle.std.proofs.Common.{refl, sym, ◌∙◌, subst}
use Rattle.cilk_program.specs.declared.program.Program.{Program}
use Rattle.cilk_program.specs.Sources.{source}
use Rattle.cilk_tree.specs.Along.{IsAlong}
use Rattle.cilk_tree.specs.Resumptions.{AreResumptions}
use Rattle.cilk_determinacy.specs.Words.{HasWords, InputsAreWords}
use Rattle.cilk_tree.specs.declared.event_order.EventOrder.{EventOrder}
use Rattle.cilk_plan.specs.Plans.{IsEventOrderOn}
use Rattle.cilk_plan.proofs.Making.{resumes_on}
use Rattle.cilk_plan.proofs.Telling.{has_event_order, along_it, own_is_the_plan, for_ok}
use Rattle.cilk_plan.proofs.yards.yard.Goals as goal

pub tell-told-requires : goal.tell-told-requires
tell-told-requires c = has_event_order c.args.plan.now.run c.laws.ensures.determinate
    (subst (λ (p : Program). HasWords (source p)) c.program.ensures c.programs_are_of_words.ensures)
    (subst InputsAreWords c.input.ensures c.inputs_are_words.ensures)
    c.args.plan.now.event_order c.laws.ensures.plan c.args.input.now

pub yard_of-requires : goal.yard_of-requires
yard_of-requires c =
    let told = along_it c.event_orders_along_have_values.ensures c.args.plan.now.run c.args.plan.now.event_order c.laws.ensures.plan c.args.input.now c.inputs_are_words-2.ensures c.tell-told.result.event_order c.tell-told.ensures in (
      refl,
      (
        subst (λ (s : EventOrder). IsAlong s c.tell-told.result.event_order) (sym c.events.ensures.event_order) told.0,
        (
          told.1,
          (
            resumes_on c.event_orders_along_have_values.ensures c.args.plan.now.run c.args.plan.now.event_order c.laws.ensures.plan c.laws.ensures.order c.args.input.now c.inputs_are_words-2.ensures c.tell-told.result.event_order c.tell-told.ensures _ c.code-code.ensures.asks,
            subst (λ (s : EventOrder). AreResumptions s c.resumptions.result.now) (sym c.events.ensures.event_order) c.resumptions.ensures,
          ),
        ),
      ),
    )

pub returns-clause-event_order : goal.returns-clause-event_order
returns-clause-event_order c = for_ok _ _ c.yard_of.result
    (λ r is. subst (IsEventOrderOn c.args.plan.now.run c.args.plan.now.event_order.opening c.args.input.now) (sym is) c.tell-told.ensures)
    c.yard_of.ensures.event_order

pub returns-clause-along : goal.returns-clause-along
returns-clause-along c = for_ok _ _ c.yard_of.result
    (λ r is. subst (IsAlong c.args.plan.now.event_order) (sym is) (along_it c.event_orders_along_have_values.ensures c.args.plan.now.run c.args.plan.now.event_order c.laws.ensures.plan c.args.input.now c.inputs_are_words-2.ensures c.tell-told.result.event_order c.tell-told.ensures).0)
    c.yard_of.ensures.event_order

pub returns-clause-own : goal.returns-clause-own
returns-clause-own c = for_ok _ _ c.yard_of.result
    (λ r is own. is ∙ own_is_the_plan c.own_event_order.ensures c.args.plan.now.run c.args.plan.now.event_order c.laws.ensures.plan c.args.input.now c.tell-told.result.event_order c.tell-told.ensures own)
    c.yard_of.ensures.event_order
