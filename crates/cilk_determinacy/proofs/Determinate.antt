-- The theorem at the language.
use Rattle.std.proofs.Common.{◌≡◌, ℕ, ℤ, List, [], sym, ap, ◌∙◌, subst}
use Rattle.cilk_types.specs.declared.event.Event.{Event}
use Rattle.cilk_types.specs.declared.limits.TheConstants.{MAX_EVENTS, MAX_TICKS}
use Rattle.cilk_types.specs.declared.outcome.Outcome.{Outcome}
use Rattle.cilk_program.specs.declared.ask.Callee.TheVariants as callees
use Rattle.cilk_program.specs.Elision.{IsElision}
use Rattle.cilk_program.specs.Outcomes.{Conclusion, Leaves, StopsBy, outcome_of}
use Rattle.cilk_program.specs.Syntax.{Source}
use Rattle.cilk_program.specs.SerialRun as serial
use Rattle.cilk_program.specs.SerialRun.{Memory, global_reducer, before_root, root_frame, begun, conclusion_of, Ending, Finished, Stopped, Serial}
use Rattle.cilk_program.proofs.Roots.{ends_as_elided}
use Rattle.cilk_determinacy.specs.Machine.{State, deeds_at, HasEnd}
use Rattle.cilk_determinacy.specs.Monoids.{unit_of}
use Rattle.cilk_determinacy.specs.Serial.{value_after}
use Rattle.cilk_determinacy.specs.Views.{view_after}
use Rattle.cilk_determinacy.specs.Traces.{trace, AreWritten}
use Rattle.cilk_determinacy.specs.MachineTheorem.{HasNoRaces, Agrees}
use Rattle.cilk_determinacy.specs.Cuts.{below, IsFull}
use Rattle.cilk_determinacy.proofs.Find.{full_deeds}
use Rattle.cilk_determinacy.proofs.Kept.{opening_ok}
use Rattle.cilk_determinacy.proofs.MachineTheorem.{race_free_kept, race_free_agrees, race_free_determinate, follows_determined}
use Rattle.cilk_determinacy.proofs.Spells.{events_spell}
use Rattle.cilk_determinacy.specs.Reducers.{View, monoid_of}
use Rattle.cilk_determinacy.specs.FrameEnvs.{FrameEnv, first_env}
use Rattle.cilk_determinacy.specs.FrameEnvMachine.{next, costs, opening_values}
use Rattle.cilk_determinacy.specs.Nested.{named}
use Rattle.cilk_determinacy.specs.Theorem.{IsSerial, IsAsSerial, RunsFree, TicksAddUp, SerialRunsByNames, SerialRunsAreNumbered, OpensAsCut, StepsKeepCuts, CutsAreAsSerial, IsDeterminateProgram}
use Rattle.cilk_determinacy.specs.Steps.{result_in, outcome_in, Next}
use Rattle.cilk_determinacy.proofs.Assembled.{views_lawful, remembers, is_framed, is_serial}
use Rattle.cilk_determinacy.proofs.Ending.{run_result, run_ends, same_outcome}
use Rattle.cilk_determinacy.specs.Numbers.{cell_number, instance_number}
use Rattle.cilk_determinacy.proofs.Numbered.{are_written, events_numbered}
use Rattle.cilk_determinacy.proofs.Shapes.{serial_proper}
use Rattle.cilk_program.proofs.Ticking.{frame_more, frame_further, not_out}

-- ---- ticks

pub ticks_add_up : (p : Source) (inputs : List ℤ) → TicksAddUp p inputs
ticks_add_up p inputs = record {
  more = λ callee d history start h. frame_more p inputs callee d history start (not_out _ h);
  fewer = λ callee answer history start. frame_further p inputs callee answer history start;
}

-- ---- a run that ends

-- a serial run that leaves an outcome finishes
pub record Ran (p : Source) (inputs : List ℤ) (r : serial.Transcript) (es : List Event) (outcome : Outcome) : Type 0 where
  pub value : ℤ
  pub left : ℕ
  pub memory : Memory
  pub derivation : Serial p inputs (root_frame p inputs) MAX_TICKS [] (begun p callees.Root (before_root p inputs MAX_EVENTS)) r es (Finished value left memory)
  pub leaves : outcome ≡ outcome_of global_reducer p value memory.store

abbrev IsLeft : Conclusion → Type 0
IsLeft (Leaves o) = Unit {0}
IsLeft (StopsBy f) = ⊥

abbrev left_or : Outcome → Conclusion → Outcome
left_or o (Leaves o') = o'
left_or o (StopsBy f) = o

pub ran : (p : Source) (inputs : List ℤ) (r : serial.Transcript) (es : List Event) (outcome : Outcome) → serial.IsSerialRun p inputs r es (Leaves outcome) → Ran p inputs r es outcome
ran p inputs r es outcome (end, d, e) = by end d e
  where
    by : (end : Ending) → Serial p inputs (root_frame p inputs) MAX_TICKS [] (begun p callees.Root (before_root p inputs MAX_EVENTS)) r es end → Leaves outcome ≡ conclusion_of p inputs end → Ran p inputs r es outcome
    by (Finished v left m) d e = record { value = v; left = left; memory = m; derivation = d; leaves = ap (left_or outcome) e }
    by (Stopped f) d e = absurd (subst IsLeft e tt)

pub serial_by_names : (p : Source) (inputs : List ℤ) → SerialRunsByNames p inputs
serial_by_names p inputs r es outcome well runs words = let h = ran p inputs r es outcome runs in is_serial p inputs well r es h.value h.left h.memory h.derivation words

pub serial_numbered : (p : Source) (inputs : List ℤ) → SerialRunsAreNumbered p inputs
serial_numbered p inputs r es outcome well runs =
    let framed = is_framed p inputs r es (Leaves outcome) (serial_proper (ran p inputs r es outcome runs).derivation) runs in
    let n = events_numbered p inputs r es (Leaves outcome) well runs in
    let written = subst (AreWritten (cell_number p r) (instance_number p r) (trace (named p r))) (sym n.events) (are_written p r [] (named p r)) in
    record {
      framed = framed;
      written = written;
      spells = events_spell FrameEnv (cell_number p r) (instance_number p r) (named p r) es framed written;
    }

module _ (p : Source) (inputs : List ℤ) (r : serial.Transcript) (es : List Event) (outcome : Outcome) (free : RunsFree p inputs r es outcome) where
  pub known : IsSerial p inputs r
  known = serial_by_names p inputs r es outcome free.named free.runs free.sets

  pub no_races : HasNoRaces (named p r)
  no_races =
      let n = serial_numbered p inputs r es outcome free.named free.runs in
      record { cell = cell_number p r; instance = instance_number p r; events = es; written = n.written; free = free.free }

  as_serial : (s : State FrameEnv View) → Agrees FrameEnv View monoid_of (Next p inputs) (costs p inputs) (first_env p) (named p r) (opening_values p inputs) s → IsAsSerial p inputs r outcome s
  as_serial s agrees = record {
    agrees = agrees;
    not_stopped = let c = agrees.consistent in c.no_stop;
    outcome_is = outcome_is;
    elided = λ ended. subst (λ o. IsElision p inputs (Leaves o)) (sym (outcome_is ended)) (ends_as_elided p inputs free.named MAX_TICKS MAX_EVENTS r es (Leaves outcome) free.runs (λ h. h));
    totals = agrees.totals;
    spent = λ ended. agrees.spent (agrees.complete ended);
    unspent = λ goes_on. agrees.unspent (λ full. goes_on (root_ended full));
  }
    where
      root_ended : IsFull (named p r) 1 (deeds_at (s.frames [])) (below s.frames) → HasEnd (deeds_at (s.frames []))
      root_ended full =
          let h = ran p inputs r es outcome free.runs in
          let c = agrees.consistent in
          subst HasEnd (sym (full_deeds (named p r) 1 (deeds_at (s.frames [])) (below s.frames) full c.cut)) (run_ends h.derivation tt (first_env p) 1)

      outcome_is : HasEnd (deeds_at (s.frames [])) → outcome_in p s ≡ outcome
      outcome_is ended =
          let h = ran p inputs r es outcome free.runs in
          let k = remembers p inputs free.named r es h.value h.left h.memory h.derivation free.sets in
          same_outcome p r s h.value (λ c. value_after (named p r) c (opening_values p inputs c)) (λ i. view_after (monoid_of i) i (named p r) (unit_of monoid_of i)) h.memory.store k.same
          (ap result_in (agrees.deeds ended) ∙ run_result h.derivation (first_env p) 1) (agrees.outcome ended) (agrees.reducers ended)
          ∙ sym h.leaves

pub opens_as_cut : (p : Source) (inputs : List ℤ) → OpensAsCut p inputs
opens_as_cut p inputs r s first = opening_ok FrameEnv View monoid_of (Next p inputs) (costs p inputs) (first_env p) (named p r) (opening_values p inputs) s first

pub steps_keep_cuts : (p : Source) (inputs : List ℤ) → StepsKeepCuts p inputs
steps_keep_cuts p inputs r es outcome free s s' n cut step =
    race_free_kept FrameEnv View monoid_of (Next p inputs) (costs p inputs) views_lawful (follows_determined (next p inputs)) (first_env p) (named p r) (opening_values p inputs) (known p inputs r es outcome free) (no_races p inputs r es outcome free) s s' n cut step

pub cuts_as_serial : (p : Source) (inputs : List ℤ) → CutsAreAsSerial p inputs
cuts_as_serial p inputs r es outcome free s cut =
    as_serial p inputs r es outcome free s
    (race_free_agrees FrameEnv View monoid_of (Next p inputs) (costs p inputs) views_lawful (follows_determined (next p inputs)) (first_env p) (named p r) (opening_values p inputs) (known p inputs r es outcome free) (no_races p inputs r es outcome free) s cut)

pub is_determinate : (p : Source) (inputs : List ℤ) → IsDeterminateProgram p inputs
is_determinate p inputs r es outcome free ns s' (s, first, steps) =
    let agrees = race_free_determinate FrameEnv View monoid_of (Next p inputs) (costs p inputs) views_lawful (follows_determined (next p inputs)) (first_env p) (named p r) (opening_values p inputs) (known p inputs r es outcome free) (no_races p inputs r es outcome free) ns s s' first steps in
    cuts_as_serial p inputs r es outcome free s' agrees.consistent
