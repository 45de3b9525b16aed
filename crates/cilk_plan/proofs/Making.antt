-- The replay of a plan on an input.
--
-- - `is_replay`, `are_frames`: it is one, with the run's frames;
-- - `resumes_on`: a frame that requests a spawn requests the `resume` after it.
use Rattle.std.proofs.Common.{◌≡◌, ◌-◌, ℤ, List, slice_get, sym, ap, ◌∙◌, subst}
use Rattle.cilk_types.specs.declared.limits.TheConstants.{MAX_EVENTS, MAX_TICKS}
use Rattle.cilk_program.specs.Outcomes.{Leaves}
use Rattle.cilk_program.specs.SerialRun.{Transcript}
use Rattle.cilk_program.specs.Sources.{source}
use Rattle.cilk_program.proofs.Uniqueness.{serial_run_is_one}
use Rattle.cilk_lower.specs.Behaves.{Behaves}
use Rattle.cilk_lower.specs.Code.{CodeView}
use Rattle.cilk_tree.specs.declared.event_order.EventOrder.{EventOrder}
use Rattle.cilk_tree.specs.Orders.{IsOrderly}
use Rattle.cilk_tree.specs.Along.{IsAlong}
use Rattle.cilk_tree.specs.Planned.{planned}
use Rattle.cilk_tree.proofs.AlongPlans.{along_orderly}
use Rattle.cilk_shared.specs.Values.{SpawnsResume, YardValue}
use Rattle.cilk_determinacy.specs.Words.{InputsAreWords}
use Rattle.cilk_replay.specs.EventOrders.{event_order_on, IsPlannedRun, EventOrdersAlongHaveValues}
use Rattle.cilk_replay.specs.Replays.{AreFramesAlong, IsOfProgram, IsReplay, Setting, replay_with}
use Rattle.cilk_replay.proofs.Resumes.{resumes_asked}
use Rattle.cilk_lower.specs.declared.layout.PlannedFrame.{PlannedFrame}
use Rattle.cilk_checker.specs.Determinate.{AcceptedRun, AreFramesOf, HasDeterminateRun}
use Rattle.cilk_checker.specs.Frames.{FramesStandAtTheirNumbers, frames_of}
use Rattle.cilk_plan.specs.Plans.{IsPlanOf, IsEventOrderOn}
use Rattle.cilk_plan.proofs.Telling.{along_it}

abbrev setting : AcceptedRun → List ℤ → Transcript → EventOrder → CodeView → Setting
setting a inputs run s code = record { program = source a.program; code = code; own = a.input; inputs = inputs; run = run; event_order = s }

of_program : EventOrdersAlongHaveValues → (a : AcceptedRun) (plan : EventOrder) → IsPlanOf a plan → (inputs : List ℤ) → InputsAreWords inputs → (s : EventOrder) → IsOrderly s → (told : IsEventOrderOn a plan.opening inputs s)
    → (code : CodeView) → Behaves (source a.program) code → IsOfProgram (setting a inputs told.run s code)
of_program law a plan is inputs words s orderly told code behaves =
    let opening : s.opening ≡ plan.opening = ap (λ (s : EventOrder). s.opening) told.is in
    record {
      behaves = behaves;
      events = a.trace;
      is = subst (IsPlannedRun (source a.program) a.input told.run a.trace) (sym opening) told.of_run;
      told = told.is ∙ ap (event_order_on (source a.program) inputs told.run a.trace) (sym opening);
      orderly = orderly;
      along = subst (λ (z : EventOrder). IsAlong z s) (is.event_order ∙ ap (planned a.trace) (sym opening)) (along_it law a plan is inputs words s told).0;
    }

pub resumes_on : EventOrdersAlongHaveValues → (a : AcceptedRun) (plan : EventOrder) → IsPlanOf a plan → IsOrderly plan → (inputs : List ℤ) → InputsAreWords inputs → (s : EventOrder) → IsEventOrderOn a plan.opening inputs s
    → (code : CodeView) → Behaves (source a.program) code → SpawnsResume s
resumes_on law a plan is orderly inputs words s told code behaves =
    let order = along_orderly plan s orderly (along_it law a plan is inputs words s told).0 in
    let asked = resumes_asked (setting a inputs told.run s code) (of_program law a plan is inputs words s order told code behaves) in
    asked.spawned

pub is_replay : EventOrdersAlongHaveValues → (a : AcceptedRun) (plan : EventOrder) → IsPlanOf a plan → (inputs : List ℤ) → InputsAreWords inputs → (y : YardValue) → IsOrderly y.event_order → IsEventOrderOn a plan.opening inputs y.event_order
    → (code : CodeView) → Behaves (source a.program) code → IsReplay (replay_with y a.program code a.input inputs)
is_replay law a plan is inputs words y orderly told code behaves =
    (told.run, of_program law a plan is inputs words y.event_order orderly told code behaves)

pub are_frames : FramesStandAtTheirNumbers → (a : AcceptedRun) → HasDeterminateRun a → (frames : List PlannedFrame) → AreFramesOf a frames → (y : YardValue) (code : CodeView) (inputs : List ℤ)
    → AreFramesAlong (replay_with y a.program code a.input inputs) frames
are_frames law a determinate frames are y code inputs run prog path b callee found runs =
    let p = source a.program in
    let ran = determinate.1.ended.ran in
    let one : run ≡ ran.run = (serial_run_is_one p a.input MAX_TICKS MAX_EVENTS run ran.run prog.events a.trace (Leaves prog.is.outcome) (Leaves a.outcome) prog.is.runs ran.serial).0 in
    let all : frames ≡ frames_of p run = are ran.run ran.serial ∙ ap (frames_of p) (sym one) in
    ap (λ (l : List PlannedFrame). slice_get l (b.number - 1)) all ∙ law p run path b callee found runs
