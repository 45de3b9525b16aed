-- The outcome of workers on an input: `left_on`; on the plan's own: `own_outcome`. The inputs of a
-- followed event order depart nowhere: `nowhere`, `nowhere_on`.
use Rattle.std.proofs.Common.{◌≡◌, ◌≤◌, ◌<◌, ◌⊎◌, inl, inr, ℕ, ℤ, List, length, reverse, sym, ap, ◌∙◌, subst, arith}
use Rattle.std.proofs.lemmas.Bool.{cases_lt}
use Rattle.cilk_types.specs.declared.event.Event.{Event}
use Rattle.cilk_types.specs.declared.outcome.Outcome.{Outcome}
use Rattle.cilk_program.specs.Elision.{IsElision}
use Rattle.cilk_program.specs.Outcomes.{Leaves}
use Rattle.cilk_program.specs.SerialRun.{Transcript, IsSerialRun}
use Rattle.cilk_program.specs.Sources.{source}
use Rattle.cilk_program.specs.Syntax.{Source}
use Rattle.cilk_types.specs.declared.limits.TheConstants.{MAX_EVENTS, MAX_TICKS}
use Rattle.cilk_program.proofs.Uniqueness.{serial_run_is_one}
use Rattle.cilk_tree.specs.declared.event_order.EventOrder.{EventOrder}
use Rattle.cilk_tree.specs.Orders.{IsOrderly}
use Rattle.cilk_tree.specs.Runs.{Departs, IsAsked, IsFollowed}
use Rattle.cilk_tree.specs.Along.{DepartsNowhere}
use Rattle.cilk_tree.specs.Before.{IsPosition}
use Rattle.cilk_shared.specs.declared.reducers.Reducers.{Reducers}
use Rattle.cilk_determinacy.specs.Runs.{Run}
use Rattle.cilk_determinacy.specs.Traces.{trace}
use Rattle.cilk_determinacy.specs.Steps.{result_in}
use Rattle.cilk_determinacy.specs.FrameEnvs.{FrameEnv}
use Rattle.cilk_determinacy.specs.Nested.{named}
use Rattle.cilk_determinacy.specs.Words.{InputsAreWords}
use Rattle.cilk_replay.specs.InputCourses.{run_of}
use Rattle.cilk_replay.specs.Ends.{RunsAsCourse, InputsRunAlong}
use Rattle.cilk_replay.specs.Frames.{course_on, ProgramsHaveOneCourse}
use Rattle.cilk_replay.specs.Left.{left_by, RunsAreElided}
use Rattle.cilk_replay.specs.EventOrders.{event_order_on, IsPlannedRun}
use Rattle.cilk_replay.proofs.LastEnds.{serial_result}
use Rattle.cilk_checker.specs.Determinate.{AcceptedRun, HasDeterminateRun}
use Rattle.cilk_plan.specs.Plans.{IsPlanOf, IsEventOrderOn}
use Rattle.cilk_threads.specs.Accepted.{IsTableOf}
use Rattle.cilk_threads.specs.Finals.{IsMadeOf}
use Rattle.cilk_threads.specs.Tables.{AreReducersOf}
use Rattle.cilk_threads.proofs.CourseLeft.{course_left}
use Rattle.cilk_threads.proofs.Leaving.{left_is}
use Rattle.cilk_threads.proofs.Opened.{runs_start_no_root}
use Rattle.cilk_threads.specs.Outcomes.{DepartsNowhereOn, LeavesOn, IsOutcomeOn}
use Rattle.cilk_threads.proofs.Alike.{same_frames, table_along}

-- if the last event is followed, each event is requested
all_asked : (s : EventOrder) → IsOrderly s → IsFollowed s (length s.events) → (p : ℕ) → IsPosition s.events p → IsAsked s p
all_asked s order followed p (low, high) = by (cases_lt p (length s.events))
  where
    by : (p < length s.events) ⊎ (length s.events ≤ p) → IsAsked s p
    by (inl less) = followed p (inr (order.all p low less))
    by (inr more) = followed p (inl (omega (arith, high, more)))

pub nowhere : (s : EventOrder) → IsOrderly s → IsFollowed s (length s.events) → DepartsNowhere s
nowhere s order followed p h = h.differs (all_asked s order followed p h.place)

-- a departure doesn't depend on the opening values of the cells
reopened : (s : EventOrder) (opening : List ℤ) (p : ℕ) → Departs (record s { opening = opening }) p → Departs s p
reopened s opening p h = record { place = h.place; reached = record { sync = h.reached.sync; other = h.reached.other }; differs = h.differs }

-- there is one event order on the inputs, but for the opening values
pub nowhere_on : (a : AcceptedRun) (inputs first : List ℤ) (s : EventOrder) → IsEventOrderOn a first inputs s → DepartsNowhere s → DepartsNowhereOn a inputs
nowhere_on a inputs first s told none opening t other at h =
    let p = source a.program in
    let x = told.of_run in
    let y = other.of_run in
    let e = serial_run_is_one p a.input MAX_TICKS MAX_EVENTS other.run told.run a.trace a.trace (Leaves y.outcome) (Leaves x.outcome) y.runs x.runs in
    let same : t ≡ event_order_on p inputs told.run a.trace opening = other.is ∙ ap (λ (r : Transcript). event_order_on p inputs r a.trace opening) e.0 in
    none at (subst (λ (z : EventOrder). Departs z at) (sym told.is)
    (reopened (event_order_on p inputs told.run a.trace first) opening at (subst (λ (z : EventOrder). Departs z at) same h)))

same_outcome : (o o' : Outcome) → Leaves o ≡ Leaves o' → o ≡ o'
same_outcome o o' h = cc h

one_outcome : (p : Source) (inputs : List ℤ) (r r' : Transcript) (es es' : List Event) (o o' : Outcome) → IsSerialRun p inputs r es (Leaves o) → IsSerialRun p inputs r' es' (Leaves o') → o ≡ o'
one_outcome p inputs r r' es es' o o' h h' = let e = serial_run_is_one p inputs MAX_TICKS MAX_EVENTS r r' es es' (Leaves o) (Leaves o') h h' in same_outcome o o' e.2

module _ (courses : ProgramsHaveOneCourse) (along : InputsRunAlong) (elided : RunsAreElided) (a : AcceptedRun) (whole : HasDeterminateRun a) (plan s : EventOrder) (inputs : List ℤ) (words : InputsAreWords inputs) where
  runs_as : IsPlanOf a plan → IsOrderly plan → (told : IsEventOrderOn a plan.opening inputs s) → DepartsNowhere s
      → RunsAsCourse (source a.program) inputs (run_of (course_on (source a.program) inputs (named (source a.program) told.run))) s
  runs_as is order told departs =
      subst (RunsAsCourse (source a.program) inputs (run_of (course_on (source a.program) inputs (named (source a.program) told.run)))) (sym told.is)
      (along (source a.program) a.input inputs told.run a.trace plan.opening told.of_run words (subst IsOrderly is.event_order order) (subst DepartsNowhere told.is departs))

  -- the outcome that is made of the whole piece is that of each serial run
  pub left_on : (r : Reducers) (value : ℤ) (o : Outcome) → IsPlanOf a plan → IsOrderly plan → IsEventOrderOn a plan.opening inputs s → IsTableOf a r → DepartsNowhere s
      → ((run : Transcript) (es : List Event) (opening : List ℤ) → IsPlannedRun (source a.program) a.input run es opening
      → result_in (reverse (trace (run_of (course_on (source a.program) inputs (named (source a.program) run))))) ≡ value)
      → IsMadeOf (source a.program) s r value o → IsOutcomeOn (source a.program) inputs o
  left_on r value o is order told table departs result made = record {
    run = run_of (course_on (source a.program) inputs (named (source a.program) told.run));
    serial = ran.course;
    left = by_names;
    elided = subst (λ (z : Outcome). IsElision (source a.program) inputs (Leaves z)) (sym by_names)
        (let x = told.of_run in elided (source a.program) inputs (run_of (course_on (source a.program) inputs (named (source a.program) told.run))) x.named x.words words ran.course ran.counts);
    leaves = λ few. let w = ran.ends few in (w.transcript, w.events, subst (λ (z : Outcome). IsSerialRun (source a.program) inputs w.transcript w.events (Leaves z)) (sym (only w.outcome (w.transcript, w.events, w.serial))) w.serial);
    only = only;
  }
    where
      ran : RunsAsCourse (source a.program) inputs (run_of (course_on (source a.program) inputs (named (source a.program) told.run))) s
      ran = runs_as is order told departs

      course_result : result_in (reverse (trace (run_of (course_on (source a.program) inputs (named (source a.program) told.run))))) ≡ value
      course_result = result told.run a.trace plan.opening told.of_run

      own_table : AreReducersOf (source a.program) told.run r
      own_table =
          let x = told.of_run in
          let own = whole.1.ended.ran in
          let same = one_outcome (source a.program) a.input told.run own.run a.trace a.trace x.outcome a.outcome x.runs own.serial in
          table.frames told.run (subst (λ (z : Outcome). IsSerialRun (source a.program) a.input told.run a.trace (Leaves z)) same x.runs)

      by_names : o ≡ left_by (source a.program) inputs (run_of (course_on (source a.program) inputs (named (source a.program) told.run)))
      by_names =
          course_left (source a.program) a.input inputs told.run a.trace plan.opening r told.of_run words own_table value o
          (subst (λ (z : EventOrder). IsMadeOf (source a.program) z r value o) told.is made) course_result

      only : (o' : Outcome) → LeavesOn (source a.program) inputs o' → o ≡ o'
      only o' (run, es, serial) =
          let p = source a.program in
          let x = told.of_run in
          let e = ran.only run es o' serial in
          let here : IsSerialRun p inputs run s.events (Leaves o') = subst (λ (z : List Event). IsSerialRun p inputs run z (Leaves o')) e.1 serial in
          left_is p x.named s r value o made inputs run o' here
          (table_along p told.run run r (same_frames courses p inputs told.run run e.0)
          (runs_start_no_root p a.input told.run a.trace (Leaves x.outcome) x.named x.runs)
          (runs_start_no_root p inputs run es (Leaves o') x.named serial) own_table)
          (sym (serial_result p inputs run es o' serial) ∙ ap (λ (t : Run FrameEnv). result_in (reverse (trace t))) e.0 ∙ course_result)

-- on the plan's own input it is the accepted run's outcome
pub own_outcome : (a : AcceptedRun) → HasDeterminateRun a → (inputs : List ℤ) (o : Outcome) → IsOutcomeOn (source a.program) inputs o → inputs ≡ a.input → o ≡ a.outcome
own_outcome a whole inputs o is same =
    let own = whole.1.ended.ran in
    is.only a.outcome (own.run, a.trace, subst (λ (xs : List ℤ). IsSerialRun (source a.program) xs own.run a.trace (Leaves a.outcome)) (sym same) own.serial)
