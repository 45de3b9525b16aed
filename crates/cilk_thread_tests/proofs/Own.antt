-- A program on its own input: `own_are_of`. For a plan that is moved out of a program's:
-- `own_are_of_whole`.
use Rattle.std.proofs.Common.{ℤ, ◌≡◌, true, Bool, List, [], ◌∷◌, length, replicate, refl, sym, ap, ◌∙◌, subst}
use Rattle.cilk_types.specs.declared.event.Event.{Event}
use Rattle.cilk_tree.specs.declared.event_order.EventOrder.{EventOrder}
use Rattle.cilk_tree.specs.Along.{IsAlong}
use Rattle.cilk_tree.specs.Planned.{planned, all_asked}
use Rattle.cilk_checker.specs.Determinate.{AcceptedRun}
use Rattle.cilk_plan.specs.Plans.{IsPlanOf}
use Rattle.cilk_thread_tests.specs.Settings.{AreOf}

all_of : (es : List Event) → replicate (length es) true ≡ all_asked es
all_of [] = refl
all_of (e ∷ es) = ap (λ (bs : List Bool). true ∷ bs) (all_of es)

pub own_are_of : (a : AcceptedRun) (plan s : EventOrder) (es : List Event) (asked : List Bool) → IsPlanOf a plan → IsAlong plan s → s ≡ plan
    → es ≡ a.trace → asked ≡ replicate (length es) true → AreOf s plan es asked
own_are_of a plan s es asked is along same events all =
    let whole : s ≡ planned a.trace plan.opening = same ∙ is.event_order in record {
      along = along;
      events = events ∙ sym (ap (λ (x : EventOrder). x.events) whole);
      asks = all ∙ all_of es ∙ ap all_asked events ∙ sym (ap (λ (x : EventOrder). x.asked) whole);
    }

pub own_are_of_whole : (a b : AcceptedRun) (plan out s : EventOrder) (es : List Event) (asked : List Bool) (i : List ℤ) → b ≡ a → out ≡ plan → IsPlanOf b plan
    → IsAlong plan s → (i ≡ b.input → s ≡ plan) → i ≡ a.input → es ≡ a.trace → asked ≡ replicate (length es) true → AreOf s out es asked
own_are_of_whole a b plan out s es asked i same moved is along own input events all = subst (λ (x : EventOrder). AreOf s x es asked) (sym moved) (own_are_of b plan s
    es asked is along (own (input ∙ sym (ap (λ (x : AcceptedRun). x.input) same))) (events ∙ sym (ap (λ (x : AcceptedRun). x.trace) same)) all)
