use Rattle.std.proofs.Common.{◌≡◌, ℤ, ◌≤◌, ◌∙◌, sym, subst, ap, List, length, slice_index_or, pos, ℕ, refl, arith}
use Rattle.cilk_types.specs.declared.event.Event.{Event}
use Rattle.cilk_program.specs.declared.program.Program.{Program}
use Rattle.cilk_program.specs.Sources.{source}
use Rattle.cilk_tree.specs.Before.{IsPosition}
use Rattle.cilk_tree.specs.declared.event_order.EventOrder.{EventOrder}
use Rattle.cilk_tree.specs.Runs.{IsAsked}
use Rattle.cilk_tree.specs.Planned.{planned, HasPlan}
use Rattle.cilk_plan.specs.Plans.{AllNamed, IsPlanOf}
use Rattle.cilk_plan.proofs.Having.{has_plan, opens_so}
use Rattle.cilk_plan.proofs.planning.events.Goals as goal

pub opening-requires-clause-globals : goal.opening-requires-clause-globals
opening-requires-clause-globals c =
    let globals : c.as_slice-globals.result.now ≡ (source c.args.accepted.now.program).openings = c.as_slice-globals.ensures ∙ ap (λ (p : Program). p.globals) c.program.ensures.value in
    subst (λ (g : List ℤ). length g ≤ c.cells_of-cells.result) (sym globals) c.cells_of-cells.ensures.globals

pub of-requires : goal.of-requires
of-requires c =
    let a = c.args.accepted.now in
    let same = c.trace-trace.ensures.value in
    let v = c.in_ok-opening.ensures in
    let globals : c.as_slice-globals.result.now ≡ (source a.program).openings = c.as_slice-globals.ensures ∙ ap (λ (p : Program). p.globals) c.program.ensures.value in
    let values = subst (λ (g : List ℤ). (i : ℕ) → slice_index_or c.in_ok-opening.opening.items i (pos 0) ≡ slice_index_or g i (pos 0)) globals v.values in
    let many = v.cells in
    let most = c.cells_of-cells.ensures.few in
    subst (λ (es : List Event). HasPlan es c.in_ok-opening.opening.items) (sym same)
    (has_plan a c.trace-trace.ensures.determinate a.program.well_named c.in_ok-opening.opening.items (omega (arith, many, most)) (opens_so a c.in_ok-opening.opening.items values))

pub returns : goal.returns
returns c =
    let a = c.args.accepted.now in
    let same = c.trace-trace.ensures.value in
    let v = c.in_ok-opening.ensures in
    let opening = c.in_ok-opening.opening.items in
    let has = c.cells_of-cells.ensures in
    let globals : c.as_slice-globals.result.now ≡ (source a.program).openings = c.as_slice-globals.ensures ∙ ap (λ (p : Program). p.globals) c.program.ensures.value in
    let values = subst (λ (g : List ℤ). (i : ℕ) → slice_index_or opening i (pos 0) ≡ slice_index_or g i (pos 0)) globals v.values in
    let is : c.in_ok-plan.plan ≡ planned a.trace opening = c.in_ok-plan.ensures.event_order ∙ ap (λ (es : List Event). planned es opening) same in
    let here : IsPlanOf a (planned a.trace opening) = record {
      event_order = refl;
      globals = subst (λ (n : ℕ). length (source a.program).openings ≤ n) (sym v.cells) has.globals;
      cells = subst (λ (n : ℕ). AllNamed n a.trace) (sym v.cells) has.named;
      opens = opens_so a opening values;
      asked = subst (λ (s : EventOrder). (p : ℕ) → IsPosition a.trace p → IsAsked s p) is (subst (λ (es : List Event). (p : ℕ) → IsPosition es p → IsAsked c.in_ok-plan.plan p) same c.in_ok-plan.ensures.asked);
    } in
    subst (IsPlanOf a) (sym is) here
