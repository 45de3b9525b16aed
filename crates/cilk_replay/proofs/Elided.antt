-- A serial run by names has the outcome of the serial elision, however many ticks its frames use
-- together: `runs_are_elided`.
--
-- - `same_finals`, `named_leaves`: so the outcome of the run by names is the outcome of its store.
use Rattle.std.proofs.Common.{◌≡◌, ℕ, zero, suc, ◌+◌, ◌<◌, ℤ, IsTrue, List, [], ◌∷◌, length, reverse, slice_get, refl, sym, ap, ap₂, ◌∙◌, subst, arith}
use Rattle.cilk_types.specs.declared.event.Instance as numbered
use Rattle.cilk_types.specs.declared.limits.TheConstants.{MAX_EVENTS}
use Rattle.cilk_monoid.specs.declared.kind.MonoidKind.{MonoidKind}
use Rattle.cilk_monoid.specs.Kinds.{final_of}
use Rattle.cilk_monoid.proofs.SameKinds.{kind_itself}
use Rattle.cilk_program.specs.Elision.{IsElision}
use Rattle.cilk_program.specs.Outcomes.{Leaves, cells_from, finals_from, outcome_of}
use Rattle.cilk_program.specs.SerialRun as serial
use Rattle.cilk_program.specs.SerialRun.{global_reducer, Finished}
use Rattle.cilk_program.specs.Store.{Store}
use Rattle.cilk_program.specs.Syntax.{Source}
use Rattle.cilk_program.specs.WellNamed.{is_kind}
use Rattle.cilk_program.proofs.Remembered.{serial_right}
use Rattle.cilk_program.proofs.Roots.{ends_as_elided}
use Rattle.cilk_determinacy.specs.Costs.{TickTotal, whole}
use Rattle.cilk_determinacy.specs.Monoids.{unit_of}
use Rattle.cilk_determinacy.specs.Runs.{Cell, Global, Instance}
use Rattle.cilk_determinacy.specs.Serial.{value_after}
use Rattle.cilk_determinacy.specs.Traces.{trace}
use Rattle.cilk_determinacy.specs.Views.{view_after}
use Rattle.cilk_determinacy.specs.FrameEnvMachine.{costs, opening_values}
use Rattle.cilk_determinacy.specs.Reducers.{View, monoid_of}
use Rattle.cilk_determinacy.specs.Steps.{result_in, finals_in}
use Rattle.cilk_determinacy.specs.FrameEnvs.{first_env, global_named}
use Rattle.cilk_determinacy.specs.Nested.{named}
use Rattle.cilk_determinacy.specs.Numbers.{cell_number, instance_number, HasInstance}
use Rattle.cilk_determinacy.proofs.Remembered.{run_remembers, view_at}
use Rattle.cilk_determinacy.proofs.Sights.{global_tied, global_here}
use Rattle.cilk_determinacy.proofs.Standing.{standing_root}
use Rattle.cilk_determinacy.proofs.Stores.{Same}
use Rattle.cilk_replay.specs.Left.{printed_in, left_by, RunsAreElided}
use Rattle.cilk_replay.proofs.Leaving.{prints_are}
use Rattle.cilk_replay.proofs.LastEnds.{ends_last, result_of}
use Rattle.cilk_replay.proofs.RunsEnd.{opens_same, runs_within}

-- ---- globals and reducers

pub same_cells_from : (from n : ℕ) (f g : ℕ → ℤ) → ((i : ℕ) → i < from + n → f i ≡ g i) → cells_from from n f ≡ cells_from from n g
same_cells_from from zero f g h = refl
same_cells_from from (suc n) f g h =
    ap₂ (λ x xs. x ∷ xs) (h from (omega arith)) (same_cells_from (suc from) n f g (λ i less. h i (omega (arith, less))))

module _ (p : Source) (r : serial.Transcript) (memory : Cell → ℤ) (views : Instance → View) (store : Store numbered.Instance)
    (same : Same p r memory views store) where
  same_finals : (n : ℕ) (ks : List MonoidKind)
      → ((i : ℕ) (k : MonoidKind) → IsTrue (is_kind (slice_get ks i) k) → HasInstance p r (global_named (n + i) k))
      → finals_in views n ks ≡ finals_from global_reducer n ks store
  same_finals n [] has = refl
  same_finals n (k ∷ ks) has =
      let e : n + 0 ≡ n = omega arith in
      let here : HasInstance p r (global_named n k) = subst (λ n. HasInstance p r (global_named n k)) e (has 0 k (kind_itself k)) in
      ap₂ (λ x xs. x ∷ xs) (ap final_of (view_at p r memory views store (global_named n) k (global_reducer n) here (global_tied p r n) same))
      (same_finals (suc n) ks (λ i j is. let e' : n + suc i ≡ suc n + i = omega arith in subst (λ n. HasInstance p r (global_named n j)) e' (has (suc i) j is)))

  all_finals : finals_in views 0 p.reducers ≡ finals_from global_reducer 0 p.reducers store
  all_finals =
      same_finals 0 p.reducers (λ i k is. let e : i ≡ 0 + i = omega arith in subst (λ n. HasInstance p r (global_named n k)) e (global_here p r i k is))

  all_globals : cells_from 0 (length p.openings) (λ n. memory (Global n)) ≡ cells_from 0 (length p.openings) store.cells
  all_globals = same_cells_from 0 (length p.openings) _ _ (λ i less. same.cells (Global i) (omega (arith, less)))

-- If the run's memory and views are those of a store, its last end gave v, and it printed the
-- store's output, then its outcome is that of v and the store.
named_leaves : (p : Source) (inputs : List ℤ) (r : serial.Transcript) (v : ℤ) (store : Store numbered.Instance)
    → result_in (reverse (trace (named p r))) ≡ v → store.output ≡ printed_in (trace (named p r))
    → Same p r (λ c. value_after (named p r) c (opening_values p inputs c)) (λ i. view_after (monoid_of i) i (named p r) (unit_of monoid_of i)) store
    → left_by p inputs (named p r) ≡ outcome_of global_reducer p v store
named_leaves p inputs r v store gave printed same =
    let memory = λ (c : Cell). value_after (named p r) c (opening_values p inputs c) in
    let views = λ (i : Instance). view_after (monoid_of i) i (named p r) (unit_of monoid_of i) in
    let globals = all_globals p r memory views store same in
    let output = sym printed in
    let finals = all_finals p r memory views store same in
    λ i. record { result = gave i; globals = globals i; output = output i; reducers = finals i }

pub runs_are_elided : RunsAreElided
runs_are_elided p inputs u well has are run keeps =
    let ticks = whole (costs p inputs) (first_env p) u TickTotal in
    let h = runs_within p inputs u well has are run keeps ticks (omega arith) in
    let r = h.transcript in
    let store = h.memory.store in
    let outcome = outcome_of global_reducer p h.value store in
    let remembered = run_remembers p r inputs well h.derivation (first_env p) 0 (standing_root p inputs well r) h.sets
    (opening_values p inputs) (unit_of monoid_of) (opens_same p inputs r) in
    let gave = result_of (trace (named p r)) h.value (ends_last p inputs h.derivation (first_env p) 1) in
    let printed : store.output ≡ printed_in (trace (named p r)) =
    (serial_right h.derivation well tt (λ taken. absurd taken)).1.1
    ∙ sym (prints_are (cell_number p r) (instance_number p r) (trace (named p r)) h.events remembered.written) in
    let leaves : left_by p inputs u ≡ outcome =
    ap (left_by p inputs) (sym h.names) ∙ named_leaves p inputs r h.value store gave printed remembered.same in
    subst (λ o. IsElision p inputs (Leaves o)) (sym leaves)
    (ends_as_elided p inputs well ticks MAX_EVENTS r h.events (Leaves outcome) (Finished h.value h.left h.memory, h.derivation, refl) (λ cut. cut))
