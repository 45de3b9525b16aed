-- The exit reason of a pool, for a program's plan: `whole_of`, `fault_of`. On its own input it
-- departs nowhere: `stays`.
use Rattle.std.proofs.Common.{◌≡◌, ℕ, ℤ, List, reverse, sym, ap, ◌∙◌, subst}
use Rattle.cilk_types.specs.declared.event.Event.{Event}
use Rattle.cilk_program.specs.Sources.{source}
use Rattle.cilk_program.specs.Syntax.{Source}
use Rattle.cilk_tree.specs.declared.event_order.EventOrder.{EventOrder}
use Rattle.cilk_tree.specs.Runs.{Departs, IsAsked}
use Rattle.cilk_tree.specs.Before.{IsPosition}
use Rattle.cilk_shared.specs.Values.{YardValue}
use Rattle.cilk_shared.specs.Pieces.{PieceValue}
use Rattle.cilk_shared.specs.declared.reducers.Reducers.{Reducers}
use Rattle.cilk_replay.specs.Replays.{ReplayValue}
use Rattle.cilk_checker.specs.Determinate.{AcceptedRun}
use Rattle.cilk_determinacy.specs.Traces.{trace}
use Rattle.cilk_determinacy.specs.Steps.{result_in}
use Rattle.cilk_determinacy.specs.Nested.{named}
use Rattle.cilk_replay.specs.InputCourses as courses
use Rattle.cilk_replay.specs.Frames.{course_on}
use Rattle.cilk_replay.specs.EventOrders.{OwnEventOrder, IsPlannedRun}
use Rattle.cilk_plan.specs.Plans.{WholePlan, IsPlanOf, IsEventOrderOn}
use Rattle.cilk_plan.proofs.Telling.{own_is_the_plan}
use Rattle.cilk_workers.specs.Shared.{SharedValue, shared_with}
use Rattle.cilk_workers.specs.Turns.{HasEnded}
use Rattle.cilk_threads.specs.declared.run.ThreadFault.{ThreadFault}
use Rattle.cilk_threads.specs.declared.run.ThreadFault.TheVariants as faults
use Rattle.cilk_threads.specs.Faults.{IsTrueFault}
use Rattle.cilk_threads.specs.Outcomes.{IsFaultOn, IsWholeOf, NamesNoPosition}

-- the whole run's piece is that of the yard's events
pub whole_of : (y : YardValue) (r : Reducers) (c : ReplayValue) (p : Source) (own inputs : List ℤ) (s : SharedValue) (x : PieceValue) (v : ℤ)
    → s ≡ shared_with y r c → source c.program ≡ p → c.own ≡ own → c.inputs ≡ inputs → HasEnded s x v → IsWholeOf p own inputs y r x v
whole_of y r c p own inputs s x v is program owned input h = record {
  good = ended.good;
  begins = ended.begins;
  last = ended.last;
  followed = ended.followed;
  result = λ run es opening planned.
      subst (λ (z : Source × List ℤ). result_in (reverse (trace (courses.run_of (course_on z.0 z.1 (named z.0 run))))) ≡ v) (λ i. (program i, input i))
      (ended.result run es opening (subst (λ (z : Source × List ℤ). IsPlannedRun z.0 z.1 run es opening) (λ i. (sym program i, sym owned i)) planned));
}
  where
    ended : HasEnded (shared_with y r c) x v
    ended = subst (λ (z : SharedValue). HasEnded z x v) is h

-- where the yard's event order departs, the event order that the program makes of the plan does
pub fault_of : (w : WholePlan) (inputs : List ℤ) (n : ℕ) (s : EventOrder) (f : ThreadFault) → (let t = w.event_order in IsEventOrderOn w.run t.opening inputs s) → IsTrueFault s n f → IsFaultOn w inputs n f
fault_of w inputs n s faults.Memory told h = h
fault_of w inputs n s faults.Workers told h = h
fault_of w inputs n s (faults.Departs p) told h = (h.0, (s, told, h.1))

-- on the plan's own input its event order departs nowhere
goes_along : OwnEventOrder → (a : AcceptedRun) (plan s : EventOrder) (inputs : List ℤ) → IsPlanOf a plan → IsEventOrderOn a plan.opening inputs s → inputs ≡ a.input → (p : ℕ) → Departs s p → ⊥
goes_along law a plan s inputs is told same p h =
    let own : s ≡ plan = own_is_the_plan law a plan is inputs s told same in
    let events : s.events ≡ a.trace = ap (λ (t : EventOrder). t.events) (own ∙ is.event_order) in
    h.differs (subst (λ (t : EventOrder). IsAsked t p) (sym own) (is.asked p (subst (λ (es : List Event). IsPosition es p) events h.place)))

pub stays : OwnEventOrder → (w : WholePlan) (inputs : List ℤ) (n : ℕ) (f : ThreadFault) → IsPlanOf w.run w.event_order → IsFaultOn w inputs n f → (let a = w.run in inputs ≡ a.input) → NamesNoPosition f
stays law w inputs n faults.Memory is h same = tt
stays law w inputs n faults.Workers is h same = tt
stays law w inputs n (faults.Departs p) is h same = goes_along law w.run w.event_order h.1.0 inputs is h.1.1 same p h.1.2
