use Rattle.std.proofs.Common.{◌+◌, List, [], ◌∷◌, ◌++◌, sym, ap, ◌∙◌, subst}
use Rattle.cilk_lower.specs.Layout.{LaysOut}
use Rattle.cilk_program.specs.Sources.{source}
use Rattle.cilk_serial.specs.SoFar.{RunView}
use Rattle.cilk_checker.specs.declared.frames.Own.{Own}
use Rattle.cilk_lower.specs.declared.layout.PlannedFrame.{PlannedFrame}
use Rattle.cilk_checker.specs.Frames.{own_of}
use Rattle.cilk_checker.proofs.Noting.{made_by, none_there, noted_more, noted_on, noted_same, noted_start, noted_whole, own_there, small_room, smaller}
use Rattle.cilk_checker.proofs.ending.run_code.Goals as goal

pub each-init : goal.each-init
each-init c =
    let prog = c.args.program.now in
    record {
      program = ap (λ (v : RunView). v.program) c.in_ok-serial.ensures;
      inputs = ap (λ (v : RunView). v.inputs) c.in_ok-serial.ensures;
      noted = noted_start prog c.args.input.now c.layout-layout.result.now (subst (LaysOut (source prog)) (sym c.layout-layout.ensures) c.requires.2)
          c.in_ok-serial.serial.events (ap (λ (v : RunView). v.events) c.in_ok-serial.ensures) c.begin.new.frames.items c.len-globals.result c.in_ok-cells.cells c.len-globals.ensures
          (c.in_ok-cells.ensures.frame ∙ (ap (λ (l : List PlannedFrame). l ++ record { body = c.of_callee.result.body; first_cell = c.len-globals.result; cells = c.of_callee.result.cells } ∷ []) c.new-frames.ensures.items
          ∙ ap (λ (o : Own). record { body = o.body; first_cell = c.len-globals.result; cells = o.cells } ∷ []) c.of_callee.ensures))
          (c.in_ok-cells.ensures.cells ∙ ap (λ (o : Own). c.len-globals.result + o.cells) c.of_callee.ensures);
    }

pub begin-requires-in-Some : goal.begin-requires-in-Some
begin-requires-in-Some c =
    let now = noted_on c.args.program.now c.args.input.now c.each.serial c.run_on.new.self c.each.frames.items c.each.cells c.in_ok-run_on.ensures.ok c.each.invariant in
    let made = made_by c.run_on.new.self c.next.new.self c.in_ok-next.field-0 c.in-Made.field-0 c.in-Made.is c.in_ok-next.ensures.ok in
    let begun = c.of_next-next.ensures (source c.args.program.now) in
    let found = own_there (own_of (source c.args.program.now) c.layout-layout.result.now) begun.callee c.of_next-next.result c.in-Some.own begun.is c.in-Some.is in
    small_room c.args.program.now c.args.input.now c.run_on.new.self c.next.new.self c.in-Made.field-0 made now.program now.inputs c.in_ok-next.ensures.intact.0
    begun.callee begun.begins c.each.frames.items c.each.cells now.noted found.0 found.1

pub each-smaller-in-Some : goal.each-smaller-in-Some
each-smaller-in-Some c = smaller c.each.serial c.run_on.new.self c.next.new.self c.in-Made.field-0 c.in_ok-run_on.ensures.ok (made_by c.run_on.new.self c.next.new.self c.in_ok-next.field-0 c.in-Made.field-0 c.in-Made.is c.in_ok-next.ensures.ok)

pub each-smaller : goal.each-smaller
each-smaller c = smaller c.each.serial c.run_on.new.self c.next.new.self c.in-Made.field-0 c.in_ok-run_on.ensures.ok (made_by c.run_on.new.self c.next.new.self c.in_ok-next.field-0 c.in-Made.field-0 c.in-Made.is c.in_ok-next.ensures.ok)

pub each-preserved-in-Some : goal.each-preserved-in-Some
each-preserved-in-Some c =
    let now = noted_on c.args.program.now c.args.input.now c.each.serial c.run_on.new.self c.each.frames.items c.each.cells c.in_ok-run_on.ensures.ok c.each.invariant in
    let prog = c.args.program.now in
    let made = made_by c.run_on.new.self c.next.new.self c.in_ok-next.field-0 c.in-Made.field-0 c.in-Made.is c.in_ok-next.ensures.ok in
    let begun = c.of_next-next.ensures (source c.args.program.now) in
    let found = own_there (own_of (source c.args.program.now) c.layout-layout.result.now) begun.callee c.of_next-next.result c.in-Some.own begun.is c.in-Some.is in
    record {
      program = made.program ∙ now.program;
      inputs = made.inputs ∙ now.inputs;
      noted = noted_more prog c.args.input.now c.run_on.new.self c.next.new.self c.in-Made.field-0 made now.program now.inputs c.in_ok-next.ensures.intact.0
          begun.callee begun.begins c.each.frames.items c.each.cells now.noted
          c.layout-layout.result.now (subst (LaysOut (source prog)) (sym c.layout-layout.ensures) c.requires.2)
          c.begin-in-Some.new.frames.items c.in_ok-cells-in-Made.cells found.0 found.1
          (c.in_ok-cells-in-Made.ensures.frame ∙ ap (λ (o : Own). c.each.frames.items ++ record { body = o.body; first_cell = c.each.cells; cells = o.cells } ∷ []) found.2)
          (c.in_ok-cells-in-Made.ensures.cells ∙ ap (λ (o : Own). c.each.cells + o.cells) found.2);
    }

pub each-preserved : goal.each-preserved
each-preserved c =
    let now = noted_on c.args.program.now c.args.input.now c.each.serial c.run_on.new.self c.each.frames.items c.each.cells c.in_ok-run_on.ensures.ok c.each.invariant in
    let made = made_by c.run_on.new.self c.next.new.self c.in_ok-next.field-0 c.in-Made.field-0 c.in-Made.is c.in_ok-next.ensures.ok in
    let begun = c.of_next-next.ensures (source c.args.program.now) in
    let none = none_there (own_of (source c.args.program.now) c.layout-layout.result.now) begun.callee c.of_next-next.result begun.is c.in_default.is in
    record {
      program = made.program ∙ now.program;
      inputs = made.inputs ∙ now.inputs;
      noted = noted_same c.args.program.now c.args.input.now c.run_on.new.self c.next.new.self c.in-Made.field-0 made now.program now.inputs c.in_ok-next.ensures.intact.0
          begun.callee begun.begins c.each.frames.items c.each.cells now.noted none;
    }

pub returns-in-Ended : goal.returns-in-Ended
returns-in-Ended c =
    let now = noted_on c.args.program.now c.args.input.now c.each.serial c.run_on.new.self c.each.frames.items c.each.cells c.in_ok-run_on.ensures.ok c.each.invariant in
    let left = noted_whole c.args.program.now c.args.input.now c.run_on.new.self c.next.new.self c.in_ok-next.field-0 c.in-Ended.is c.in_ok-next.ensures.ok now.program now.inputs
    c.each.frames.items c.each.cells now.noted c.in_ok-outcome-in-Ended.outcome c.in_ok-outcome-in-Ended.trace c.in_ok-outcome-in-Ended.ensures.ran c.in_ok-outcome-in-Ended.ensures.events in
    (left.0, left.1, c.requires)
