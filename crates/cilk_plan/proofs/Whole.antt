-- The answers of a program's plan: `syncs_told`, `told_by_blocks` (of the first spawns and the blocks), `strands_told`,
-- `resumptions_told`.
use Rattle.std.proofs.Common.{◌≡◌, ℕ, List, sym, ap, subst}
use Rattle.cilk_types.specs.declared.event.Event.{Event}
use Rattle.cilk_tree.specs.declared.event_order.EventOrder.{EventOrder}
use Rattle.cilk_tree.specs.Resumptions.{AreResumptions}
use Rattle.cilk_checker.specs.Determinate.{AcceptedRun}
use Rattle.cilk_tree.specs.Columns.{AreBlockEnds, AreStrands}
use Rattle.cilk_plan.specs.Plans.{IsPlanOf, WholePlan}
use Rattle.cilk_plan.proofs.Columns.{one_list}

abbrev whole : AcceptedRun → EventOrder → WholePlan
whole a s = record { run = a; event_order = s }

pub syncs_told : (w : WholePlan) (a : AcceptedRun) (s : EventOrder) (column lent : List ℕ) → whole a s ≡ w → AreBlockEnds s column → lent ≡ column
    → AreBlockEnds w.event_order lent
syncs_told w a s column lent same are is =
    subst (λ (v : WholePlan). AreBlockEnds v.event_order lent) same (subst (AreBlockEnds s) (sym is) are)

-- a column that goes by the ends of blocks, which make one list
pub told_by_blocks : (Are : EventOrder → List ℕ → List ℕ → Type 0) (w : WholePlan) (a : AcceptedRun) (s : EventOrder) (syncs column lent : List ℕ) → whole a s ≡ w
    → AreBlockEnds s syncs → Are s syncs column → lent ≡ column → (ends : List ℕ) → AreBlockEnds w.event_order ends → Are w.event_order ends lent
told_by_blocks Are w a s syncs column lent same are so is =
    subst (λ (v : WholePlan). (ends : List ℕ) → AreBlockEnds v.event_order ends → Are v.event_order ends lent) same
    (λ ends them. subst (λ (z : List ℕ × List ℕ). Are s z.0 z.1) (λ i. (one_list s syncs ends are them i, sym is i)) so)

pub strands_told : (w : WholePlan) (a : AcceptedRun) (s : EventOrder) (column lent : List ℕ) → whole a s ≡ w → IsPlanOf a s → AreStrands a.trace column → lent ≡ column
    → AreStrands w.event_order.events lent
strands_told w a s column lent same plan are is =
    let events : a.trace ≡ s.events = sym (ap (λ (x : EventOrder). x.events) plan.event_order) in
    subst (λ (v : WholePlan). AreStrands v.event_order.events lent) same (subst (λ (es : List Event). AreStrands es lent) events (subst (AreStrands a.trace) (sym is) are))

pub resumptions_told : (w : WholePlan) (a : AcceptedRun) (s : EventOrder) (column lent : List ℕ) → whole a s ≡ w → AreResumptions s column → lent ≡ column
    → AreResumptions w.event_order lent
resumptions_told w a s column lent same are is =
    subst (λ (v : WholePlan). AreResumptions v.event_order lent) same (subst (AreResumptions s) (sym is) are)
