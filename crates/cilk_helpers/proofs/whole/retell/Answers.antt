use Rattle.std.proofs.Common.{◌≡◌, ℕ, ◌+◌, ℤ, List, [], ◌∷◌, ◌++◌, Option, IfSome, Vec, Global, sym, ap, ◌∙◌, subst, w64, SFits, rules}
use Rattle.std.proofs.lemmas.Int.{to_z-of_z}
use Rattle.cilk_types.specs.declared.event.Event.{Event}
use Rattle.cilk_program.specs.Syntax.{Source}
use Rattle.cilk_lower.specs.Layout.{LaysOut}
use Rattle.cilk_program.specs.Sources.{source}
use Rattle.cilk_serial.specs.declared.state.State.{State}
use Rattle.cilk_serial.proofs.Driving.{ended_as}
use Rattle.cilk_checker.specs.declared.frames.Own.{Own}
use Rattle.cilk_lower.specs.declared.layout.PlannedFrame.{PlannedFrame}
use Rattle.cilk_checker.proofs.Noting.{NotedSoFar, noted_start}
use Rattle.cilk_helpers.specs.declared.retelling.Retelling.{Retelling}
use Rattle.cilk_helpers.specs.declared.whole.Step.{Step}
use Rattle.cilk_helpers.specs.Telling.{Tells}
use Rattle.cilk_helpers.specs.Whole.{Retells}
use Rattle.cilk_helpers.proofs.Framing.{cells_fit, noted_begun, noted_last, noted_same}
use Rattle.cilk_helpers.proofs.whole.retell.Goals as goal
use Rattle.cilk_helpers.proofs.whole.retell.Goals.{in-GoesOn, in-Begins+in_ok-cells-in-Begins}

-- the same frames and cells
as_noted : (p : Source) (inputs : List ℤ) (es : List Event) (v w : Vec PlannedFrame Global) (n m : ℕ) → v ≡ w → n ≡ m → NotedSoFar p inputs es w.items m → NotedSoFar p inputs es v.items n
as_noted p inputs es v w n m frames cells h =
    subst (λ (k : ℕ). NotedSoFar p inputs es v.items k) (sym cells) (subst (λ (u : Vec PlannedFrame Global). NotedSoFar p inputs es u.items m) (sym frames) h)

pub each-init : goal.each-init
each-init c =
    let prog = c.args.program.now in
    let p = source prog in
    let inputs = c.args.input.now in
    let run = c.in-Some.run' in
    let tells = subst (λ (found : Option Retelling). IfSome found (Tells c.args.code.now p inputs)) c.in-Some.is c.in_ok-run.ensures.tells in
    let first = subst (λ (found : Option Retelling). IfSome found (λ t. t.state.events.items ≡ [])) c.in-Some.is c.in_ok-run.ensures.first in
    let own = c.of_callee-root in
    let begun = c.in_ok-cells.ensures in
    record {
      tells = tells;
      kept = c.in_ok-run.ensures.kept;
      noted = noted_start prog inputs c.layout.result.now (subst (LaysOut p) (sym c.layout.ensures) c.requires.layout)
          run.state.events.items first c.begin-2.new.frames.items c.len-2.result c.in_ok-cells.cells c.len-2.ensures
          (begun.frame ∙ (ap (λ (l : List PlannedFrame). l ++ record { body = own.result.body; first_cell = c.len-2.result; cells = own.result.cells } ∷ []) c.in_ok-frames.ensures.items
          ∙ ap (λ (o : Own). record { body = o.body; first_cell = c.len-2.result; cells = o.cells } ∷ []) own.ensures))
          (begun.cells ∙ ap (λ (o : Own). c.len-2.result + o.cells) own.ensures);
    }

pub begin-requires-in-Begins : goal.begin-requires-in-Begins
begin-requires-in-Begins c =
    let p = source c.args.program.now in
    let code = c.args.code.now in
    let inputs = c.args.input.now in
    let t = c.each.run in
    let t' = c.make_event.new.run in
    let h = subst (λ (s : Step). Retells code p inputs t s t') c.in-Begins.is c.in_ok-make_event.ensures.step in
    cells_fit code p inputs t t' c.each.frames.items c.each.cells c.each.invariant.noted h.0 h.2

pub each-preserved : goal.each-preserved
each-preserved c =
    let p = source c.args.program.now in
    let code = c.args.code.now in
    let inputs = c.args.input.now in
    let t = c.each.run in
    let t' = c.make_event.new.run in
    let es = t'.state.events.items in
    let frames = c.each.frames.items in
    let cells = c.each.cells in
    let noted = c.each.invariant.noted in
    let step = c.in_ok-make_event.ensures.step in
    let after = c.match-branch-6 in
    record {
      tells = elim after.branch [
        | in-GoesOn w ↦ let h = subst (λ (s : Step). Retells code p inputs t s t') w.in-GoesOn.is step in h.tells
        | in-Begins+in_ok-cells-in-Begins w ↦ let h = subst (λ (s : Step). Retells code p inputs t s t') w.in-Begins.is step in h.2.tells
      ];
      kept = c.in_ok-make_event.ensures.kept;
      noted = elim after.branch [
        | in-GoesOn w ↦
            let h = subst (λ (s : Step). Retells code p inputs t s t') w.in-GoesOn.is step in
            as_noted p inputs es after.frames c.each.frames after.cells cells w.frames-is w.cells-is (noted_same code p inputs t t' frames cells noted h)
        | in-Begins+in_ok-cells-in-Begins w ↦
            let h = subst (λ (s : Step). Retells code p inputs t s t') w.in-Begins.is step in
            let begun = w.in_ok-cells-in-Begins in
            as_noted p inputs es after.frames w.begin-in-Begins.new.frames after.cells begun.cells w.frames-is w.cells-is
            (noted_begun code p inputs t t' frames cells noted w.in-Begins.own h.0 h.1 h.2 c.requires.layout w.begin-in-Begins.new.frames.items begun.cells begun.ensures.frame begun.ensures.cells)
      ];
    }

pub outcome-requires : goal.outcome-requires
outcome-requires c =
    let p = source c.args.program.now in
    let inputs = c.args.input.now in
    let run = c.make_event.new.run in
    let h = subst (λ (s : Step). Retells c.args.code.now p inputs c.each.run s run) c.in-Ends.is c.in_ok-make_event.ensures.step in
    let fits : SFits w64 c.in-Ends.value = search rules in
    (inputs, ended_as p inputs run.state c.into_state.result c.in-Ends.value _ c.into_state.ensures (to_z-of_z w64 c.in-Ends.value fits) h.ended)

pub returns-in-Ends : goal.returns-in-Ends
returns-in-Ends c =
    let code = c.args.code.now in
    let p = source c.args.program.now in
    let inputs = c.args.input.now in
    let t = c.each.run in
    let t' = c.make_event.new.run in
    let h = subst (λ (s : Step). Retells code p inputs t s t') c.in-Ends.is c.in_ok-make_event.ensures.step in
    let fits : SFits w64 c.in-Ends.value = search rules in
    let left = c.in_ok-outcome-in-Ends.ensures in
    let all = left.events ∙ ap (λ (s : State). s.events.items) c.into_state.ensures in (
      left.ran inputs (ended_as p inputs t'.state c.into_state.result c.in-Ends.value _ c.into_state.ensures (to_z-of_z w64 c.in-Ends.value fits) h.ended),
      noted_last code p inputs t t' c.each.frames.items c.each.cells c.each.invariant.noted c.in-Ends.value h c.in_ok-outcome-in-Ends.outcome c.in_ok-outcome-in-Ends.trace all,
    )
