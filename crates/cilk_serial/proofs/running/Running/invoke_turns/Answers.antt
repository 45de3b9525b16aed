use Rattle.cilk_program.specs.declared.ask.Callee.TheVariants.{Loop}
use Rattle.cilk_program.specs.Sources.{source}
use Rattle.cilk_serial.proofs.Driving.{begins_child_if, crowd_refuses, fits_callee, may_begin, not_crowded, stops, uncrowded}
use Rattle.cilk_serial.proofs.running.Running.invoke_turns.Goals as goal
use Rattle.std.proofs.Common.{refl, sym, subst, ◌∙◌}
use Rattle.cilk_program.specs.declared.ask.Ask.{Ask}
use Rattle.cilk_serial.specs.Going.{Going, Progresses}
use Rattle.cilk_serial.specs.declared.running.Running.{Running}

pub turn_cells-cells-requires : goal.turn_cells-cells-requires
turn_cells-cells-requires c =
    let p = c.args.program.now in
    let going = c.requires.going in
    let fits = (fits_callee c.args.code.now (source p) going.0 c.args.self.now c.args.how (Loop c.args.part.now) p.well_named going.1 c.requires.begins) in
    fits.0

pub returns-in-Some : goal.returns-in-Some
returns-in-Some c = λ inputs g.
    let p = c.args.program.now in
    let r = c.args.self.now in (
      refl,
      stops c.args.code.now (source p) inputs r c.in-Some.fault p.well_named g (crowd_refuses (source p) r.state r.ask c.args.how (Loop c.args.part.now) c.turn_cells-cells.result c.in-Some.fault c.requires.begins c.turn_cells-cells.ensures c.in-Some.ensures),
    )

pub turns-requires-clause-up : goal.turns-requires-clause-up
turns-requires-clause-up c =
    let p = c.args.program.now in
    let r = c.args.self.now in
    let g = c.requires.going.1 in
    may_begin c.args.code.now (source p) c.requires.going.0 r c.args.how (Loop c.args.part.now) p.well_named g c.requires.begins

pub turns-requires-clause-frames : goal.turns-requires-clause-frames
turns-requires-clause-frames c =
    let p = source c.args.program.now in
    let r = c.args.self.now in
    let g = c.requires.going.1 in
    (not_crowded c.args.code.now p c.requires.going.0 r c.args.how (Loop c.args.part.now) g (uncrowded p r.state r.ask c.args.how (Loop c.args.part.now) c.turn_cells-cells.result c.requires.begins c.turn_cells-cells.ensures c.in_default.ensures) c.requires.begins).0

pub begin-requires : goal.begin-requires
begin-requires c =
    let p = source c.args.program.now in
    let r = c.args.self.now in
    let g = c.requires.going.1 in
    (not_crowded c.args.code.now p c.requires.going.0 r c.args.how (Loop c.args.part.now) g (uncrowded p r.state r.ask c.args.how (Loop c.args.part.now) c.turn_cells-cells.result c.requires.begins c.turn_cells-cells.ensures c.in_default.ensures) c.requires.begins).0

pub returns-in-Ok : goal.returns-in-Ok
returns-in-Ok c = λ inputs g.
    let p = c.args.program.now in
    let r = c.args.self.now in
    let callee = Loop c.args.part.now in
    let spared : Running = record { state = r.state; frames = r.frames; ask = c.spare-operands.new.self; left = r.left } in
    let going = subst (λ (k : Ask). Going c.args.code.now (source p) inputs (record { state = r.state; frames = r.frames; ask = k; left = r.left })) (sym c.spare-operands.ensures) g in
    let asks = c.spare-operands.ensures ∙ c.requires.begins in
    let allowed = uncrowded (source p) r.state spared.ask c.args.how callee c.turn_cells-cells.result asks c.turn_cells-cells.ensures c.in_default.ensures in
    subst (λ (k : Ask). Progresses c.args.code.now (source p) inputs (record { state = r.state; frames = r.frames; ask = k; left = r.left }) c.begin.result c.begin.new.self) c.spare-operands.ensures
    (begins_child_if c.args.code.now (source p) inputs spared c.begin.new.self c.in-Ok.frame c.args.how callee c.turn_cells-cells.result c.begin.result p.well_named going allowed asks c.turn_cells-cells.ensures c.in-Ok.ensures c.begin.ensures)
