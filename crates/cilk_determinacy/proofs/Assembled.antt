-- The serial run by names is a serial run in the sense of the theorem on free machines.
use Rattle.std.proofs.Common.{◌≡◌, ℕ, ◌+◌, ◌≤◌, ℤ, pos, IsTrue, List, [], length, slice_get, unwrap_or, refl, sym, ap, arith, ◌∙◌}
use Rattle.std.proofs.lemmas.Option.{slice_get_past}
use Rattle.cilk_types.specs.declared.event.Event.{Event}
use Rattle.cilk_types.specs.declared.limits.TheConstants.{MAX_EVENTS, MAX_TICKS}
use Rattle.cilk_program.specs.declared.ask.Callee.TheVariants as callees
use Rattle.cilk_program.specs.Outcomes.{Conclusion, Leaves, outcome_of}
use Rattle.cilk_program.specs.Store.{opening}
use Rattle.cilk_program.specs.Syntax.{Source}
use Rattle.cilk_program.specs.WellNamed.{is_well_named}
use Rattle.cilk_program.specs.SerialRun as serial
use Rattle.cilk_program.specs.SerialRun.{Memory, global_reducer, before_root, root_frame, begun, conclusion_of, Ending, Finished, Stopped, Serial}
use Rattle.cilk_program.specs.Numbering.{Counts, unbegun, entered}
use Rattle.cilk_program.specs.Order.{Fresh, opening_asks, IsOrderly}
use Rattle.cilk_program.proofs.Closings.{runs_begin, runs_resume, runs_end}
use Rattle.cilk_program.proofs.Creations.{runs_create}
use Rattle.cilk_program.proofs.Existence.{serial_run_is_short}
use Rattle.cilk_program.proofs.Numbers.{past_globals, serial_counts}
use Rattle.cilk_program.proofs.Orderly.{runs_orderly}
use Rattle.cilk_program.proofs.Remembered.{runs_small}
use Rattle.cilk_determinacy.specs.Runs.{Cell, Global, Own, Instance, Run}
use Rattle.cilk_determinacy.specs.Costs.{Total, TickTotal, EventTotal, FrameTotal, CellTotal, weight}
use Rattle.cilk_monoid.specs.Laws.{IsLawful}
use Rattle.cilk_determinacy.specs.Monoids.{IsValue, unit_of}
use Rattle.cilk_determinacy.specs.Traces.{trace, begin_due, IsFramed}
use Rattle.cilk_determinacy.specs.Reducers.{monoid_of}
use Rattle.cilk_determinacy.specs.FrameEnvs.{FrameEnv, first_env}
use Rattle.cilk_determinacy.specs.FrameEnvMachine.{used, limit, costs, opening_values}
use Rattle.cilk_determinacy.specs.Nested.{named}
use Rattle.cilk_determinacy.specs.Theorem.{SetWords, IsSerial, IsCounted, CountsAsSerial}
use Rattle.cilk_determinacy.proofs.Behaving.{run_holds}
use Rattle.cilk_determinacy.specs.Numbers.{cell_number, instance_number, HasCell}
use Rattle.cilk_determinacy.proofs.Numbers.{cell_is}
use Rattle.cilk_determinacy.proofs.Remembered.{Remembers, run_remembers}
use Rattle.cilk_determinacy.proofs.Retired.{root_retires}
use Rattle.cilk_determinacy.proofs.Shapes.{IsProper, serial_proper, framed, synced, closed}
use Rattle.cilk_determinacy.proofs.Standing.{standing_root}
use Rattle.cilk_determinacy.proofs.Stores.{Same}
use Rattle.cilk_determinacy.proofs.Used.{run_created}
use Rattle.cilk_determinacy.proofs.Weights.{written_length, events_weigh, frames_weigh, cells_weigh}

pub views_lawful : (i : Instance) → IsLawful (monoid_of i) IsValue
views_lawful i = record { unit_member = tt; single_member = λ x w. tt; combine_member = λ a b h g. tt; left_neutral = λ v h. refl; right_neutral = λ v h. refl; associative = λ a b c x y z. refl }

opened : (xs : List ℤ) (n : ℕ) → length xs ≤ n → pos 0 ≡ unwrap_or (slice_get xs n) (pos 0)
opened xs n h = ap (λ o. unwrap_or o (pos 0)) (sym (slice_get_past xs n h))

-- frames begin, resume and end where they must
pub is_framed : (p : Source) (inputs : List ℤ) (r : serial.Transcript) (es : List Event) (c : Conclusion) → IsProper r → serial.IsSerialRun p inputs r es c → IsFramed begin_due (named p r)
is_framed p inputs r es c proper run = framed p begin_due (first_env p) 1 r proper (runs_begin p inputs r es c run, runs_resume p inputs r es c run)

module _ (p : Source) (inputs : List ℤ) (well : IsTrue (is_well_named p)) (r : serial.Transcript) (es : List Event) (v : ℤ) (left : ℕ) (m : Memory) (d : Serial p inputs (root_frame p inputs) MAX_TICKS [] (begun p callees.Root (before_root p inputs MAX_EVENTS)) r es (Finished v left m)) (words : SetWords es) where
  run : serial.IsSerialRun p inputs r es (Leaves (outcome_of global_reducer p v m.store))
  run = (Finished v left m, d, refl)

  abbrev t : Run FrameEnv
  t = named p r

  opening_same : Same p r (opening_values p inputs) (unit_of monoid_of) (opening p.openings)
  opening_same = record { cells = cells; reducers = λ i has. refl; output = refl }
    where
      cells : (c : Cell) → HasCell p r c → opening_values p inputs c ≡ unwrap_or (slice_get p.openings (cell_number p r c)) (pos 0)
      cells (Global n) has = refl
      cells (Own name n) (here, less) =
          let low = past_globals p r here.path here.block here.found in
          let is = cell_is p r name n here in
          opened p.openings (cell_number p r (Own name n)) (omega (arith, low, is))

  pub remembers : Remembers p r t es (opening_values p inputs) (unit_of monoid_of) m.store
  remembers = run_remembers p r inputs well d (first_env p) 0 (standing_root p inputs well r) words (opening_values p inputs) (unit_of monoid_of) opening_same

  orderly : IsOrderly p (Fresh (opening_asks p callees.Root)) r
  orderly = runs_orderly p inputs r es (Leaves (outcome_of global_reducer p v m.store)) run

  framed_run : IsFramed begin_due t
  framed_run = is_framed p inputs r es (Leaves (outcome_of global_reducer p v m.store)) (serial_proper d) run

  is_within : (total : Total) → used p inputs total + weight (costs p inputs) total (first_env p) [] t ≤ limit p inputs total
  is_within TickTotal =
      let h = (run_holds p inputs d (first_env p) [] 1 (record { callee = refl; answers = refl; going = refl; ordinal = refl }) (omega arith)).1 in
      omega (arith, h)
  is_within EventTotal =
      let h = events_weigh p inputs (first_env p) [] t in
      let same = written_length (cell_number p r) (instance_number p r) (trace t) es remembers.written in
      let short = serial_run_is_short p inputs r es (Leaves (outcome_of global_reducer p v m.store)) run in
      omega (arith, h, same, short)
  is_within FrameTotal =
      let h = frames_weigh p inputs (first_env p) [] 1 r (entered p callees.Root (unbegun p)) in
      let small = runs_small p well inputs r es (Leaves (outcome_of global_reducer p v m.store)) run in
      let few = small.frames in
      omega (arith, h, few)
  is_within CellTotal =
      let h = cells_weigh p inputs (first_env p) [] 1 r (entered p callees.Root (unbegun p)) in
      let small = runs_small p well inputs r es (Leaves (outcome_of global_reducer p v m.store)) run in
      let few = small.cells in
      omega (arith, h, few)

  pub is_counted : IsCounted p inputs r es left m
  is_counted = record {
    ticks = let h = (run_holds p inputs d (first_env p) [] 1 (record { callee = refl; answers = refl; going = refl; ordinal = refl }) (omega arith)).1 in omega (arith, h);
    events = let h = events_weigh p inputs (first_env p) [] t in let same = written_length (cell_number p r) (instance_number p r) (trace t) es remembers.written in omega (arith, h, same);
    frames = let h = frames_weigh p inputs (first_env p) [] 1 r (entered p callees.Root (unbegun p)) in h ∙ sym (ap (λ (c : Counts). c.frames) (serial_counts d));
    cells = let h = cells_weigh p inputs (first_env p) [] 1 r (entered p callees.Root (unbegun p)) in h ∙ sym (ap (λ (c : Counts). c.cells) (serial_counts d));
  }

  pub is_serial : IsSerial p inputs r
  is_serial = record {
    behaves = (run_holds p inputs d (first_env p) [] 1 (record { callee = refl; answers = refl; going = refl; ordinal = refl }) (omega arith)).0;
    framed = framed_run;
    closed = closed begin_due t framed_run (synced p (first_env p) 1 r (runs_end p inputs r es (Leaves (outcome_of global_reducer p v m.store)) run));
    serial = let h = remembers in h.serial;
    views = let h = remembers in h.serial_views;
    created = λ i. run_created p r i t es remembers.written remembers.has (runs_create p well inputs r es (Leaves (outcome_of global_reducer p v m.store)) run);
    retired = λ i. root_retires p i r orderly;
    within = is_within;
  }

pub counts_as_serial : (p : Source) (inputs : List ℤ) → CountsAsSerial p inputs
counts_as_serial p inputs r es v left m well d words = is_counted p inputs well r es v left m d words
