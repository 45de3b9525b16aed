-- A serial run by names is the program's serial run within as many ticks as all its frames use
-- together: `runs_within`. So it is the program's serial run if it keeps the limits:
-- `within_limits`. The runs on other inputs: `inputs_run_along`.
use Rattle.std.proofs.Common.{◌≡◌, ◌≤◌, ℤ, List, [], refl, sym, ap, ◌∙◌, arith, ◌<◌, zero, suc, slice_index_or, pos, length, ℕ, ◌+◌, IsTrue}
use Rattle.cilk_types.specs.declared.event.Event.{Event}
use Rattle.cilk_types.specs.declared.outcome.Outcome.{Outcome}
use Rattle.cilk_program.specs.Answered.{cells_after, opening_cells}
use Rattle.cilk_program.proofs.Remembered.{runs_leave}
use Rattle.cilk_tree.specs.declared.event_order.EventOrder.{EventOrder}
use Rattle.cilk_tree.specs.Values.{HasValue}
use Rattle.cilk_replay.specs.EventOrders.{event_order_on}
use Rattle.cilk_replay.proofs.LastWrites.{last_value}
use Rattle.std.proofs.Math.Seq.{take-length}
use Rattle.cilk_types.specs.declared.limits.TheConstants.{MAX_TICKS, MAX_EVENTS}
use Rattle.cilk_program.specs.declared.ask.Callee.TheVariants as callees
use Rattle.cilk_program.specs.Outcomes.{Leaves, outcome_of, cells_from}
use Rattle.cilk_program.specs.Store.{opening}
use Rattle.cilk_program.specs.Syntax.{Source}
use Rattle.cilk_program.specs.WellNamed.{is_well_named}
use Rattle.cilk_program.specs.SerialRun.{Transcript, Memory, global_reducer, before_root, root_frame, begun, Ending, Finished, Stopped, Serial, IsSerialRun}
use Rattle.cilk_program.proofs.Uniqueness.{serial_run_exists}
use Rattle.cilk_determinacy.specs.Costs.{Total, TickTotal, EventTotal, FrameTotal, CellTotal, whole}
use Rattle.cilk_determinacy.specs.Monoids.{unit_of}
use Rattle.cilk_determinacy.specs.Runs.{Run}
use Rattle.cilk_determinacy.specs.Traces.{trace, begin_due}
use Rattle.cilk_determinacy.specs.FrameEnvMachine.{next, opening_values, limit, costs}
use Rattle.cilk_determinacy.specs.Reducers.{View, monoid_of}
use Rattle.cilk_determinacy.specs.FrameEnvs.{FrameEnv, first_env}
use Rattle.cilk_determinacy.specs.Nested.{named}
use Rattle.cilk_determinacy.specs.Numbers.{cell_number, instance_number}
use Rattle.cilk_determinacy.specs.Theorem.{IsSerial, SetWords}
use Rattle.cilk_determinacy.specs.Words.{HasWords, InputsAreWords}
use Rattle.cilk_determinacy.proofs.Determinate.{serial_by_names}
use Rattle.cilk_determinacy.proofs.Numbered.{events_numbered}
use Rattle.cilk_determinacy.proofs.Standing.{standing_root}
use Rattle.cilk_determinacy.proofs.Stores.{Same}
use Rattle.cilk_determinacy.proofs.Weights.{events_weigh}
use Rattle.cilk_determinacy.proofs.Wordy.{set_words}
use Rattle.cilk_replay.specs.InputCourses.{run_of}
use Rattle.cilk_replay.specs.Ends.{KeepsLimits, RunsWithinLimitsAreWhole, InputsRunAlong}
use Rattle.cilk_replay.specs.Frames.{same_frame, course_on, IsSerialRunOn}
use Rattle.cilk_replay.specs.Left.{KeepsCounts}
use Rattle.cilk_replay.specs.Lists.{with_values}
use Rattle.cilk_replay.proofs.AskedEventOrders.{departs_nowhere}
use Rattle.cilk_replay.proofs.CourseLimits.{opened, IsAsMuch, as_much, are_like}
use Rattle.cilk_replay.proofs.CourseNumbers.{events_are}
use Rattle.cilk_replay.proofs.NoFault.{EndsAs, Goes, goes_along, at_begin}
use Rattle.cilk_replay.proofs.OneRun.{runs_are_one, named_runs_are_serial}
use Rattle.cilk_replay.proofs.EventOrderValues.{event_orders_have_values, course, written, serial, cells_open, own_words}

-- the program's serial run within these ticks is the run by names, which ends without a fault
pub record IsRunWithin (p : Source) (inputs : List ℤ) (ticks : ℕ) (u : Run FrameEnv) : Type 0 where
  pub transcript : Transcript
  pub events : List Event
  pub value : ℤ
  pub left : ℕ
  pub memory : Memory
  pub derivation : Serial p inputs (root_frame p inputs) ticks [] (begun p callees.Root (before_root p inputs MAX_EVENTS)) transcript events
      (Finished value left memory)
  pub names : named p transcript ≡ u
  pub sets : SetWords events

-- memory and views as a program begins
pub opens_same : (p : Source) (inputs : List ℤ) (r : Transcript) → Same p r (opening_values p inputs) (unit_of monoid_of) (opening p.openings)
opens_same p inputs r = record { cells = cells_open p inputs r; reducers = λ i has. refl; output = refl }

pub runs_within : (p : Source) (inputs : List ℤ) (u : Run FrameEnv) → IsTrue (is_well_named p) → HasWords p → InputsAreWords inputs
    → IsSerialRunOn p inputs u → KeepsCounts p inputs u → (ticks : ℕ) → whole (costs p inputs) (first_env p) u TickTotal ≤ ticks
    → IsRunWithin p inputs ticks u
runs_within p inputs u well has are run keeps ticks enough =
    let exists = serial_run_exists p inputs ticks MAX_EVENTS in
    by exists.0 exists.1 exists.3.0 exists.3.1
  where
    goes : Goes p inputs (first_env p) [] u (opening_values p inputs) (unit_of monoid_of) ticks (begun p callees.Root (before_root p inputs MAX_EVENTS))
    goes =
        let n = keeps.events in
        let f = keeps.frames in
        let c = keeps.cells in
        let many = events_weigh p inputs (first_env p) [] u in
        record {
          behaves = run.behaves;
          reads = run.reads;
          values = run.values;
          words = own_words p inputs has are u run (omega (arith, n, many));
          ticks = omega (arith, enough);
          events = omega (arith, n, many);
          frames = omega (arith, f);
          cells = omega (arith, c);
        }

    by : (r : Transcript) (es : List Event) (end : Ending)
        → Serial p inputs (root_frame p inputs) ticks [] (begun p callees.Root (before_root p inputs MAX_EVENTS)) r es end → IsRunWithin p inputs ticks u
    by r es end d =
        done end d
        (goes_along p inputs well r d (first_env p) [] 0 (at_begin p inputs (first_env p) (root_frame p inputs) refl) (standing_root p inputs well r)
        (opening_values p inputs) (unit_of monoid_of) (opens_same p inputs r) u goes)
      where
        done : (end : Ending) → Serial p inputs (root_frame p inputs) ticks [] (begun p callees.Root (before_root p inputs MAX_EVENTS)) r es end
            → EndsAs p inputs end (first_env p) [] ticks es (named p r) u → IsRunWithin p inputs ticks u
        done (Finished v left m) d h = record { transcript = r; events = es; value = v; left = left; memory = m; derivation = d; names = h.0; sets = h.1 }
        done (Stopped f) d h = absurd h

pub within_limits : RunsWithinLimitsAreWhole
within_limits p inputs u well has are run keeps =
    let counts : KeepsCounts p inputs u = record { events = keeps EventTotal; frames = keeps FrameTotal; cells = keeps CellTotal } in
    let h = runs_within p inputs u well has are run counts MAX_TICKS (keeps TickTotal) in
    let store = h.memory.store in
    record {
      transcript = h.transcript;
      events = h.events;
      outcome = outcome_of global_reducer p h.value store;
      serial = (Finished h.value h.left h.memory, h.derivation, refl);
      names = h.names;
    }

counted : (p : Source) (inputs others : List ℤ) (t u : Run FrameEnv) → IsAsMuch p inputs others (first_env p) (first_env p) [] [] t u
    → ((total : Total) → whole (costs p inputs) (first_env p) t total ≤ limit p inputs total) → KeepsCounts p others u
counted p inputs others t u much within = record {
  events = let h = within EventTotal in let e = much.events in omega (arith, h, e);
  frames = let h = within FrameTotal in let e = much.frames in omega (arith, h, e);
  cells = let h = within CellTotal in let e = much.cells in omega (arith, h, e);
}

keeps : (p : Source) (others : List ℤ) (u : Run FrameEnv) → whole (costs p others) (first_env p) u TickTotal ≤ MAX_TICKS → KeepsCounts p others u
    → KeepsLimits p others u
keeps p others u ticks counts TickTotal = ticks
keeps p others u ticks counts EventTotal = counts.events
keeps p others u ticks counts FrameTotal = counts.frames
keeps p others u ticks counts CellTotal = counts.cells

from_at : (k n : ℕ) (f : ℕ → ℤ) (i : ℕ) → i < n → slice_index_or (cells_from k n f) i (pos 0) ≡ f (k + i)
from_at k zero f i less = absurd (omega (arith, less))
from_at k (suc n) f zero less = let e : k ≡ k + 0 = omega arith in ap f e
from_at k (suc n) f (suc i) less =
    let e : suc k + i ≡ k + suc i = omega arith in
    from_at (suc k) n f i (omega (arith, less)) ∙ ap f e

-- a global of the run's outcome is what the cell's last write wrote
last_global : (p : Source) (s : EventOrder) (opening : List ℤ) → ((c : ℕ) → slice_index_or s.opening c (pos 0) ≡ opening_cells p [] c) → (es : List Event) (outcome : Outcome) → es ≡ s.events
    → outcome.globals ≡ cells_from 0 (length p.openings) (cells_after es (opening_cells p [])) → (c : ℕ) → c < length p.openings
    → HasValue s c (length s.events) (slice_index_or outcome.globals c (pos 0))
last_global p s opening opens es outcome same left c less =
    last_value s (opening_cells p []) opens c (length s.events) (slice_index_or outcome.globals c (pos 0))
    (ap (λ l. slice_index_or l c (pos 0)) left
    ∙ from_at 0 (length p.openings) (cells_after es (opening_cells p [])) c less
    ∙ ap (λ n. cells_after es (opening_cells p []) n) (let e : 0 + c ≡ c = omega arith in e)
    ∙ ap (λ l. cells_after l (opening_cells p []) c) (same ∙ sym (take-length s.events)))

pub inputs_run_along : InputsRunAlong
inputs_run_along p inputs others r es opening is are orderly nowhere =
    let stands = event_orders_have_values p inputs others r es opening is are in
    let along = stands.0 in
    let values = stands.1 in
    let t = named p r in
    let c = course_on p others t in
    let own = serial p inputs r es opening is in
    let is_course = course p inputs r es opening is others are in
    let run = departs_nowhere p inputs others t c (cell_number p r) (instance_number p r) es _ opening own is_course (written p inputs r es opening is others are) orderly along values.begins nowhere in
    let like = are_like p inputs others (first_env p) (first_env p) [] [] (opening_values p others) (unit_of monoid_of) t c is_course own.behaves (opened begin_due t own.framed) run.behaves (opened begin_due (run_of c) run.framed) in
    let much = as_much p inputs others (first_env p) (first_env p) [] [] t (run_of c) like in
    let limits : IsSerial p inputs r = serial_by_names p inputs r es is.outcome is.named is.runs (set_words p is.words inputs is.inputs_words r es (Leaves is.outcome) is.runs) in
    let counts = counted p inputs others t (run_of c) much limits.within in
    let s = event_order_on p others r es opening in
    let only : (r' : Transcript) (es' : List Event) (outcome : Outcome) → IsSerialRun p others r' es' (Leaves outcome) → (named p r' ≡ run_of c) × (es' ≡ s.events) =
    λ r' es' outcome runs.
    let same : named p r' ≡ run_of c =
    runs_are_one FrameEnv View monoid_of (next p others) (same_frame p) (first_env p) (opening_values p others) (unit_of monoid_of) (named p r') (run_of c)
    (named_runs_are_serial p others r' es' outcome is.named is.words are runs) run in
    let list = events_numbered p inputs r es (Leaves is.outcome) is.named is.runs in
    let list' = events_numbered p others r' es' (Leaves outcome) is.named runs in (
      same,
      list'.events
          ∙ events_are p others r r' (first_env p) (opening_values p others) (unit_of monoid_of) c like same is_course
          ∙ ap (λ l. with_values l (trace (run_of c))) (sym list.events),
    ) in
    record {
      course = run;
      counts = counts;
      ends = λ ticks. within_limits p others (run_of c) is.named is.words are run (keeps p others (run_of c) ticks counts);
      only = only;
      globals = λ r' es' outcome runs c less.
          let left = runs_leave p is.named others r' es' outcome runs in
          last_global p s opening is.opens es' outcome (only r' es' outcome runs).1 left.globals c less;
    }
