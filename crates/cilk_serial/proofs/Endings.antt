-- The outcome of a run that has ended.
use Rattle.std.proofs.Common.{◌≡◌, ℕ, zero, suc, ◌+◌, ◌≤◌, ℤ, pos, IsTrue, List, [], ◌∷◌, length, take, get_or, refl, sym, ap, ◌∙◌, subst, arith}
use Rattle.cilk_types.specs.declared.event.Event.{Event}
use Rattle.cilk_types.specs.declared.outcome.Final.{Final}
use Rattle.cilk_types.specs.declared.outcome.Outcome.{Outcome}
use Rattle.cilk_types.specs.declared.limits.TheConstants.{MAX_EVENTS, MAX_TICKS}
use Rattle.cilk_program.specs.Outcomes.{Leaves, cells_from, finals_from}
use Rattle.cilk_program.specs.Syntax.{Source}
use Rattle.cilk_program.specs.WellNamed.{is_well_named}
use Rattle.cilk_program.specs.SerialRun.{Finished, IsSerialRun, conclusion_of, global_reducer}
use Rattle.cilk_program.proofs.Roots.{ends_as_elided}
use Rattle.cilk_serial.specs.declared.state.State.{State}
use Rattle.cilk_serial.specs.Going.{HasEnded}
use Rattle.cilk_serial.specs.Ran.{Ran}

listed : (xs : List ℤ) (from n : ℕ) (f : ℕ → ℤ) → n ≤ length xs → ((i : ℕ) → f (from + i) ≡ get_or xs i (pos 0)) → cells_from from n f ≡ take n xs
listed xs from zero f low h = refl
listed [] from (suc n) f low h = absurd (omega (arith, low))
listed (x ∷ xs) from (suc n) f low h =
    let here : from ≡ from + 0 = omega arith in
    let first : f from ≡ x = ap f here ∙ h 0 in
    let rest : cells_from (suc from) n f ≡ take n xs = listed xs (suc from) n f (omega (arith, low)) (λ i. let there : suc from + i ≡ from + suc i = omega arith in ap f there ∙ h (suc i)) in
    ap (λ y. y ∷ cells_from (suc from) n f) first ∙ ap (λ ys. x ∷ ys) rest

abbrev outcome : ℤ → List ℤ → List ℤ → List Final → Outcome
outcome v globals output reducers = record { result = v; globals = globals; output = output; reducers = reducers }

pub leaves : (p : Source) → IsTrue (is_well_named p) → (inputs : List ℤ) (s : State) (v w : ℤ) (globals output : List ℤ) (reducers : List Final) (es : List Event) → (h : HasEnded p inputs s v) → w ≡ v → globals ≡ take (length p.openings) s.cells.items → output ≡ s.output.items
    → reducers ≡ finals_from global_reducer 0 p.reducers h.memory.store → es ≡ s.events.items → Ran p inputs (record { result = w; globals = globals; output = output; reducers = reducers }) es
leaves p well inputs s v w globals output reducers es h same globals_are output_is reducers_are events_are =
    let m = h.memory in
    let sh = h.shows in
    let end = Finished v h.left m in
    let wh = h.whole in
    let fits : length p.openings ≤ length s.cells.items = subst (λ n. length p.openings ≤ n) sh.cells h.opened in
    let cells : cells_from 0 (length p.openings) m.store.cells ≡ take (length p.openings) s.cells.items = listed s.cells.items 0 (length p.openings) m.store.cells fits (λ i. let e : 0 + i ≡ i = omega arith in ap m.store.cells e ∙ sh.cell i) in
    let is : Leaves (outcome w globals output reducers) ≡ conclusion_of p inputs end =
    ap (λ x. Leaves (outcome x globals output reducers)) same
    ∙ ap (λ x. Leaves (outcome v x output reducers)) (globals_are ∙ sym cells)
    ∙ ap (λ x. Leaves (outcome v (cells_from 0 (length p.openings) m.store.cells) x reducers)) (output_is ∙ sym sh.printed)
    ∙ ap (λ x. Leaves (outcome v (cells_from 0 (length p.openings) m.store.cells) m.store.output x)) reducers_are in
    let run : IsSerialRun p inputs wh.run es (Leaves (outcome w globals output reducers)) = subst (λ l. IsSerialRun p inputs wh.run l (Leaves (outcome w globals output reducers))) (sym events_are) (end, wh.serial, is) in
    record { run = wh.run; serial = run; elision = ends_as_elided p inputs well MAX_TICKS MAX_EVENTS wh.run es (Leaves (outcome w globals output reducers)) run (λ cut. cut) }
