-- In a serial run of a well-named program, each read gives the last value written.
use Rattle.std.proofs.Common.{◌≡◌, ℕ, suc, ◌+◌, ◌≤◌, ℤ, Bool, true, false, nat_eq, nat_lt, IsTrue, if◌then◌else◌, List, [], ◌∷◌, ◌++◌, length, Option, Some, None, option_map, refl, sym, ap, ◌∙◌, subst, append_assoc, append-nil, arith}
use Rattle.std.proofs.lemmas.Bool.{ltb-true, ltb-false}
use Rattle.cilk_types.specs.declared.fault.Fault.{Fault}
use Rattle.cilk_types.specs.declared.fault.Fault.TheVariants.{TooManyEvents, TooManyFrames, TooManyCells}
use Rattle.cilk_types.specs.declared.limits.TheConstants.{MAX_FRAMES, MAX_CELLS}
use Rattle.cilk_types.specs.declared.event.Event.{Event}
use Rattle.cilk_types.specs.declared.outcome.Outcome.{Outcome}
use Rattle.cilk_program.specs.declared.ask.Ask.{Ask}
use Rattle.cilk_program.specs.declared.ask.Ask.TheVariants as asks
use Rattle.cilk_program.specs.declared.ask.Callee.{Callee}
use Rattle.cilk_program.specs.declared.ask.Callee.TheVariants as callees
use Rattle.cilk_types.specs.declared.invocation.Invocation.{Invocation}
use Rattle.cilk_types.specs.declared.invocation.Invocation.TheVariants.{Call, Spawn}
use Rattle.cilk_program.specs.Syntax.{Source}
use Rattle.cilk_program.specs.Behaviour.{OpenAsk}
use Rattle.cilk_program.specs.Outcomes.{Conclusion, Leaves, StopsBy, cells_from}
use Rattle.cilk_program.specs.WellNamed.{is_well_named}
use Rattle.cilk_program.specs.Inside.{body_of, CalleeIsFit, CalleeIsThere, AskIsThere, IsTaken}
use Rattle.cilk_program.specs.SerialRun.{Transcript, Memory, Frame, itself, cells_of, own_from, own_reducers, stored, event_of, invocation, put_result, result_written, refused, IsInner, next_frame, counted, Ending, Finished, Stopped, Serial, Made, Ended, Went, Broke, Refused, conclusion_of, IsSerialRun}
use Rattle.cilk_program.specs.Scopes.{cell_in}
use Rattle.cilk_program.specs.Store.{Store, clear_all}
use Rattle.cilk_monoid.specs.Ranges.{same_instance}
use Rattle.cilk_monoid.specs.declared.kind.MonoidKind.{MonoidKind}
use Rattle.cilk_types.specs.declared.event.Instance.{Instance}
use Rattle.cilk_program.specs.Numbering.{Counts, counts_of, entered, counts_after}
use Rattle.cilk_program.specs.Answered.{written, IsRightRead, AreRight, cells_after, printed_by, prints, opening_cells, IsLeft, IsSmall}
use Rattle.cilk_program.proofs.Naming.{well_named_parts}
use Rattle.cilk_program.proofs.Asked.{asks_there}
use Rattle.cilk_program.proofs.Existence.{none_some}
use Rattle.cilk_program.proofs.Numbers.{serial_counts}

right_both : (es es' : List Event) (cells : ℕ → ℤ) → AreRight cells es → AreRight (cells_after es cells) es' → AreRight cells (es ++ es')
right_both [] es' cells h g = g
right_both (e ∷ es) es' cells h g = (h.0, right_both es es' (written e cells) h.1 g)

after_both : (es es' : List Event) (cells : ℕ → ℤ) → cells_after (es ++ es') cells ≡ cells_after es' (cells_after es cells)
after_both [] es' cells = refl
after_both (e ∷ es) es' cells = after_both es es' (written e cells)

prints_both : (es es' : List Event) → prints (es ++ es') ≡ prints es ++ prints es'
prints_both [] es' = refl
prints_both (e ∷ es) es' = ap (λ l. printed_by e ++ l) (prints_both es es') ∙ sym (append_assoc (printed_by e) (prints es) (prints es'))

starts_right : (how : Invocation) (n : ℕ) (es : List Event) (cells : ℕ → ℤ) → AreRight cells es → AreRight cells (invocation how n ∷ es)
starts_right Call n es cells h = (tt, h)
starts_right Spawn n es cells h = (tt, h)

starts_cells : (how : Invocation) (n : ℕ) (es : List Event) (cells : ℕ → ℤ) → cells_after (invocation how n ∷ es) cells ≡ cells_after es cells
starts_cells Call n es cells = refl
starts_cells Spawn n es cells = refl

starts_prints : (how : Invocation) (n : ℕ) (es : List Event) → prints (invocation how n ∷ es) ≡ prints es
starts_prints Call n es = refl
starts_prints Spawn n es = refl

-- one event over the store
record Does (cells : ℕ → ℤ) (output : List ℤ) (e : Event) (cells' : ℕ → ℤ) (output' : List ℤ) : Type 0 where
  right : IsRightRead e cells
  written_is : cells' ≡ written e cells
  printed_is : output' ≡ output ++ printed_by e

-- the effect of several events on the store, if the run ends
abbrev DoAll : (ℕ → ℤ) → List ℤ → List Event → Ending → Type 0
DoAll cells output es (Finished v left m) = (m.store.cells ≡ cells_after es cells) × (m.store.output ≡ output ++ prints es)
DoAll cells output es (Stopped f) = Unit {0}

result_does : (o : Option ℕ) (v : ℤ) (m : Memory) → (c : ℕ) × (o ≡ Some c) → Does m.store.cells m.store.output (result_written o v) (put_result o v m.store).cells (put_result o v m.store).output
result_does None v m (c, e) = none_some (sym e)
result_does (Some c) v m there = record { right = tt; written_is = refl; printed_is = sym (append-nil m.store.output) }

-- the caller's variable exists if it receives the result
abbrev IsKept : Frame → Type 0
IsKept fr = IsTaken fr.callee → (c : ℕ) × (fr.result ≡ Some c)

event_does : (p : Source) (fr : Frame) (m : Memory) (k : Ask) → IsInner k → AskIsThere p fr.callee k → IsKept fr → Does m.store.cells m.store.output (event_of fr m k) (stored p fr m k).cells (stored p fr m k).output
event_does p fr m asks.Begin inner there kept = record { right = tt; written_is = refl; printed_is = sym (append-nil m.store.output) }
event_does p fr m (asks.Read x) inner there kept = record { right = refl; written_is = refl; printed_is = sym (append-nil m.store.output) }
event_does p fr m (asks.Write x v) inner there kept = record { right = tt; written_is = refl; printed_is = sym (append-nil m.store.output) }
event_does p fr m (asks.Create r) inner there kept = record { right = tt; written_is = refl; printed_is = sym (append-nil m.store.output) }
event_does p fr m (asks.Update r v) inner there kept = record { right = tt; written_is = refl; printed_is = sym (append-nil m.store.output) }
event_does p fr m (asks.Set r v) inner there kept = record { right = tt; written_is = refl; printed_is = sym (append-nil m.store.output) }
event_does p fr m (asks.Value r) inner there kept = record { right = tt; written_is = refl; printed_is = sym (append-nil m.store.output) }
event_does p fr m (asks.Print v) inner there kept = record { right = tt; written_is = refl; printed_is = refl }
event_does p fr m (asks.Invoke how callee) inner there kept = absurd inner
event_does p fr m asks.Resume inner there kept = record { right = tt; written_is = refl; printed_is = sym (append-nil m.store.output) }
event_does p fr m asks.Sync inner there kept = record { right = tt; written_is = refl; printed_is = sym (append-nil m.store.output) }
event_does p fr m (asks.Result v) inner there kept = result_does fr.result v m (kept there)
event_does p fr m (asks.End v) inner there kept = absurd inner
event_does p fr m (asks.Fault f) inner there kept = absurd inner

-- retired reducers don't change cells and output
cleared_cells : (own : ℕ → Instance) (n : ℕ) (ks : List MonoidKind) (m : Store Instance) → (clear_all same_instance own n ks m).cells ≡ m.cells
cleared_cells own n [] m = refl
cleared_cells own n (k ∷ ks) m = cleared_cells own (suc n) ks _

cleared_output : (own : ℕ → Instance) (n : ℕ) (ks : List MonoidKind) (m : Store Instance) → (clear_all same_instance own n ks m).output ≡ m.output
cleared_output own n [] m = refl
cleared_output own n (k ∷ ks) m = cleared_output own (suc n) ks _

-- an event, and the rest
act_all : (cells cells' : ℕ → ℤ) (output output' : List ℤ) (e : Event) (es : List Event) (end : Ending) → Does cells output e cells' output' → DoAll cells' output' es end → DoAll cells output (e ∷ es) end
act_all cells cells' output output' e es (Finished v left m) one h =
    (h.0 ∙ ap (cells_after es) one.written_is, h.1 ∙ ap (λ l. l ++ prints es) one.printed_is ∙ append_assoc output (printed_by e) (prints es))
act_all cells cells' output output' e es (Stopped f) one h = tt

child_all : (cells cells' : ℕ → ℤ) (output output' : List ℤ) (how : Invocation) (n : ℕ) (es es' : List Event) (end : Ending) → cells' ≡ cells_after es cells → output' ≡ output ++ prints es → DoAll cells' output' es' end
    → DoAll cells output (invocation how n ∷ (es ++ es')) end
child_all cells cells' output output' how n es es' (Finished v left m) c o h = (
  h.0 ∙ ap (cells_after es') c ∙ sym (starts_cells how n (es ++ es') cells ∙ after_both es es' cells),
  h.1 ∙ ap (λ l. l ++ prints es') o ∙ append_assoc output (prints es) (prints es') ∙ ap (λ l. output ++ l) (sym (starts_prints how n (es ++ es') ∙ prints_both es es')),
)
child_all cells cells' output output' how n es es' (Stopped f) c o h = tt

child_fit : (p : Source) (b : _) (callee : Callee) → CalleeIsThere p b callee → CalleeIsFit p callee
child_fit p b callees.Root h = absurd h
child_fit p b (callees.Function c) h = h.0
child_fit p b (callees.Loop l) h = h.0

child_kept : (p : Source) (fr : Frame) (m : Memory) (callee : Callee) → IsKept (next_frame p fr.scope m callee)
child_kept p fr m callees.Root taken = absurd taken
child_kept p fr m (callees.Function c) (x, e) = (cell_in itself fr.scope x, ap (option_map (cell_in itself fr.scope)) e)
child_kept p fr m (callees.Loop l) taken = absurd taken

pub serial_right : {p : Source} {inputs : List ℤ} {fr : Frame} {start : ℕ} {history : List ℤ} {m : Memory} {r : Transcript} {es : List Event} {end : Ending} → Serial p inputs fr start history m r es end
    → IsTrue (is_well_named p) → CalleeIsFit p fr.callee → IsKept fr → AreRight m.store.cells es × DoAll m.store.cells m.store.output es end
serial_right {p = p} {inputs = inputs} (Made {fr = fr} {start = start} {history = history} {m = m} {es = es} {end = end} k left q inner ok rest) well fit kept =
    let there = subst (λ (q : OpenAsk). AskIsThere p fr.callee q.ask) q (asks_there p well fr.callee fit inputs history start) in
    let one = event_does p fr m k inner there kept in
    let more = serial_right rest well fit kept in
    ((one.right, subst (λ cells. AreRight cells es) one.written_is more.0), act_all m.store.cells (stored p fr m k).cells m.store.output (stored p fr m k).output (event_of fr m k) es end one more.1)
serial_right {p = p} (Ended {fr = fr} {m = m} v left q ok) well fit kept = ((tt, tt), (cleared_cells (own_from p fr) 0 (own_reducers p fr.callee) m.store, cleared_output (own_from p fr) 0 (own_reducers p fr.callee) m.store ∙ sym (append-nil m.store.output)))
serial_right {p = p} {inputs = inputs} (Went {fr = fr} {start = start} {history = history} {m = m} {es = es} {es' = es'} {end = end} how callee left v left' m' q ok inner rest) well fit kept =
    let there = subst (λ (q : OpenAsk). AskIsThere p fr.callee q.ask) q (asks_there p well fr.callee fit inputs history start) in
    let one = serial_right inner well (child_fit p (body_of p fr.callee) callee there) (child_kept p fr (counted m) callee) in
    let more = serial_right rest well fit kept in (
      starts_right how (suc m.frames) (es ++ es') m.store.cells (right_both es es' m.store.cells one.0 (subst (λ cells. AreRight cells es') one.1.0 more.0)),
      child_all m.store.cells m'.store.cells m.store.output m'.store.output how (suc m.frames) es es' end one.1.0 one.1.1 more.1,
    )
serial_right {p = p} {inputs = inputs} (Broke {fr = fr} {start = start} {history = history} {m = m} {es = es} how callee left f q ok inner) well fit kept =
    let there = subst (λ (q : OpenAsk). AskIsThere p fr.callee q.ask) q (asks_there p well fr.callee fit inputs history start) in
    let one = serial_right inner well (child_fit p (body_of p fr.callee) callee there) (child_kept p fr (counted m) callee) in
    (starts_right how (suc m.frames) es m.store.cells one.0, tt)
serial_right (Refused k left f q bad) well fit kept = (tt, tt)

pub runs_right : (p : Source) → IsTrue (is_well_named p) → (inputs : List ℤ) (r : Transcript) (es : List Event) (c : Conclusion) → IsSerialRun p inputs r es c → AreRight (opening_cells p inputs) es
runs_right p well inputs r es c (end, d, e) = (serial_right d well tt (λ taken. absurd taken)).0

left_by : (p : Source) (inputs : List ℤ) (es : List Event) (outcome : Outcome) (end : Ending) → DoAll (opening_cells p inputs) [] es end → Leaves outcome ≡ conclusion_of p inputs end → IsLeft p inputs es outcome
left_by p inputs es outcome (Finished v left m) h e =
    let is : outcome ≡ outcome_in (conclusion_of p inputs (Finished v left m)) = ap outcome_in e in
    record {
      globals = ap (λ (o : Outcome). o.globals) is ∙ ap (cells_from 0 (length p.openings)) h.0;
      output = ap (λ (o : Outcome). o.output) is ∙ h.1;
    }
  where
    outcome_in : Conclusion → Outcome
    outcome_in (Leaves o) = o
    outcome_in (StopsBy f) = outcome
left_by p inputs es outcome (Stopped f) h e = absurd (subst ends e tt)
  where
    ends : Conclusion → Type 0
    ends (Leaves o) = Unit {0}
    ends (StopsBy f) = ⊥

pub runs_leave : (p : Source) → IsTrue (is_well_named p) → (inputs : List ℤ) (r : Transcript) (es : List Event) (outcome : Outcome) → IsSerialRun p inputs r es (Leaves outcome) → IsLeft p inputs es outcome
runs_leave p well inputs r es outcome (end, d, e) = left_by p inputs es outcome end (serial_right d well tt (λ taken. absurd taken)).1 e

-- ---- limits

-- a child that isn't refused keeps within the limits
roomy : (room : Bool) (o : Option Fault) → (if room then Some TooManyEvents else o) ≡ None → o ≡ None
roomy true o h = none_some h
roomy false o h = h

few : (few_frames many_cells : Bool) → (if few_frames then (if many_cells then Some TooManyCells else None) else Some TooManyFrames) ≡ None → (few_frames ≡ true) × (many_cells ≡ false)
few true true h = none_some h
few true false h = (refl, refl)
few false many h = none_some h

record Fits (n : Counts) : Type 0 where
  frames : n.frames ≤ MAX_FRAMES
  cells : n.cells ≤ MAX_CELLS

child_fits : (p : Source) (m : Memory) (how : Invocation) (callee : Callee) → refused p m (asks.Invoke how callee) ≡ None → Fits (entered p callee (counts_of m))
child_fits p m how callee ok =
    let both = few (nat_lt m.frames MAX_FRAMES) (nat_lt MAX_CELLS (m.cells + cells_of p callee)) (roomy (nat_eq m.room 0) _ ok) in
    let less = ltb-true m.frames MAX_FRAMES both.0 in
    record { frames = omega (arith, less); cells = ltb-false MAX_CELLS (m.cells + cells_of p callee) both.1 }

serial_fits : {p : Source} {inputs : List ℤ} {fr : Frame} {start : ℕ} {history : List ℤ} {m : Memory} {r : Transcript} {es : List Event} {end : Ending} → Serial p inputs fr start history m r es end → Fits (counts_of m) → Fits (counts_after p r (counts_of m))
serial_fits (Made k left q inner ok rest) h = serial_fits rest h
serial_fits (Ended v left q ok) h = h
serial_fits {p = p} (Went {m = m} {u = u} {r = r} how callee left v left' m' q ok inner rest) h =
    let n = entered p callee (counts_of m) in
    let after : counts_of m' ≡ counts_after p u n = serial_counts inner in
    let one = serial_fits inner (child_fits p m how callee ok) in
    subst (λ n. Fits (counts_after p r n)) after (serial_fits rest (subst Fits (sym after) one))
serial_fits {p = p} (Broke {m = m} how callee left f q ok inner) h = serial_fits inner (child_fits p m how callee ok)
serial_fits (Refused k left f q bad) h = h

pub runs_small : (p : Source) → IsTrue (is_well_named p) → (inputs : List ℤ) (r : Transcript) (es : List Event) (c : Conclusion) → IsSerialRun p inputs r es c → IsSmall p r
runs_small p well inputs r es c (end, d, e) =
    let parts = well_named_parts p well in
    let f = parts.functions p.main parts.main in
    let openings = parts.openings in
    let cells = f.cells in
    let fits = serial_fits d (record { frames = omega arith; cells = omega (arith, openings, cells) }) in
    record { frames = fits.frames; cells = fits.cells }
