use Rattle.cilk_program.specs.declared.ask.Callee.TheVariants.{Function}
use Rattle.cilk_program.specs.Sources.{source}
use Rattle.cilk_serial.proofs.Driving.{begins_child_if, crowd_refuses, fits_callee, going_seen, may_begin, not_crowded, stops, uncrowded}
use Rattle.cilk_serial.proofs.running.Running.invoke_function.Goals as goal
use Rattle.std.proofs.Common.{◌≡◌, ℤ, List, ap, sym, subst}
use Rattle.cilk_program.specs.declared.ask.Ask.{Ask}
use Rattle.cilk_program.specs.Syntax.{Source}
use Rattle.cilk_lower.specs.Code.{CodeView}
use Rattle.cilk_frames.specs.AskSlot.{IsFunctionCall}
use Rattle.cilk_serial.specs.Going.{Going, Progresses}
use Rattle.cilk_serial.specs.declared.running.Running.{Running}

-- the run with an equal request
abbrev asking : Running → Ask → Running
asking r k = record { state = r.state; frames = r.frames; ask = k; left = r.left }

still_going : (code : CodeView) (p : Source) (inputs : List ℤ) (r : Running) (k : Ask) → k ≡ r.ask → Going code p inputs r → Going code p inputs (asking r k)
still_going code p inputs r k same g = subst (λ (k : Ask). Going code p inputs (asking r k)) (sym same) g

pub invocation-how-requires : goal.invocation-how-requires
invocation-how-requires c = subst IsFunctionCall (sym c.spare-operands.ensures) c.requires.begins

pub function_cells-cells-requires : goal.function_cells-cells-requires
function_cells-cells-requires c =
    let p = c.args.program.now in
    let going = c.requires.going in
    let r = asking c.args.self.now c.spare-operands.new.self in
    let g = still_going c.args.code.now (source p) going.0 c.args.self.now c.spare-operands.new.self c.spare-operands.ensures going.1 in
    let call = c.invocation-how.result in
    let fits = (fits_callee c.args.code.now (source p) going.0 r call.0 (Function call.1.now) p.well_named g c.invocation-how.ensures).0 in
    fits.here

pub returns-in-Some : goal.returns-in-Some
returns-in-Some c = λ inputs before.
    let p = c.args.program.now in
    let r = asking c.args.self.now c.spare-operands.new.self in
    let g = still_going c.args.code.now (source p) inputs c.args.self.now c.spare-operands.new.self c.spare-operands.ensures before in
    let call = c.invocation-how.result in (
      ap (asking c.args.self.now) c.spare-operands.ensures,
      stops c.args.code.now (source p) inputs r c.in-Some.fault p.well_named g (crowd_refuses (source p) r.state r.ask call.0 (Function call.1.now) c.function_cells-cells.result c.in-Some.fault c.invocation-how.ensures c.function_cells-cells.ensures c.in-Some.ensures),
    )

pub function-requires-clause-may : goal.function-requires-clause-may
function-requires-clause-may c =
    let p = c.args.program.now in
    let r = asking c.args.self.now c.spare-operands.new.self in
    let g = still_going c.args.code.now (source c.args.program.now) c.requires.going.0 c.args.self.now c.spare-operands.new.self c.spare-operands.ensures c.requires.going.1 in
    let call = c.invocation-how.result in
    (source p, g.frame, g.parents, going_seen c.args.code.now (source p) c.requires.going.0 r g, may_begin c.args.code.now (source p) c.requires.going.0 r call.0 (Function call.1.now) p.well_named g c.invocation-how.ensures)

pub function-requires-clause-frames : goal.function-requires-clause-frames
function-requires-clause-frames c =
    let p = source c.args.program.now in
    let r = asking c.args.self.now c.spare-operands.new.self in
    let g = still_going c.args.code.now (source c.args.program.now) c.requires.going.0 c.args.self.now c.spare-operands.new.self c.spare-operands.ensures c.requires.going.1 in
    let call = c.invocation-how.result in
    (not_crowded c.args.code.now p c.requires.going.0 r call.0 (Function call.1.now) g (uncrowded p r.state r.ask call.0 (Function call.1.now) c.function_cells-cells.result c.invocation-how.ensures c.function_cells-cells.ensures c.in_default.ensures) c.invocation-how.ensures).0

pub begin-requires : goal.begin-requires
begin-requires c =
    let p = source c.args.program.now in
    let r = asking c.args.self.now c.spare-operands.new.self in
    let g = still_going c.args.code.now (source c.args.program.now) c.requires.going.0 c.args.self.now c.spare-operands.new.self c.spare-operands.ensures c.requires.going.1 in
    let call = c.invocation-how.result in
    (not_crowded c.args.code.now p c.requires.going.0 r call.0 (Function call.1.now) g (uncrowded p r.state r.ask call.0 (Function call.1.now) c.function_cells-cells.result c.invocation-how.ensures c.function_cells-cells.ensures c.in_default.ensures) c.invocation-how.ensures).0

pub returns-in-Ok : goal.returns-in-Ok
returns-in-Ok c = λ inputs before.
    let p = c.args.program.now in
    let r = asking c.args.self.now c.spare-operands.new.self in
    let g = still_going c.args.code.now (source p) inputs c.args.self.now c.spare-operands.new.self c.spare-operands.ensures before in
    let call = c.invocation-how.result in
    let allowed = uncrowded (source p) r.state r.ask call.0 (Function call.1.now) c.function_cells-cells.result c.invocation-how.ensures c.function_cells-cells.ensures c.in_default.ensures in
    subst (λ (k : Ask). Progresses c.args.code.now (source p) inputs (asking c.args.self.now k) c.begin.result c.begin.new.self) c.spare-operands.ensures
    (begins_child_if c.args.code.now (source p) inputs r c.begin.new.self c.in-Ok.frame call.0 (Function call.1.now) c.function_cells-cells.result c.begin.result p.well_named g allowed c.invocation-how.ensures c.function_cells-cells.ensures c.in-Ok.ensures c.begin.ensures)
