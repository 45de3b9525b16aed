use Rattle.std.proofs.Common.{sym, ◌∙◌, subst}
use Rattle.cilk_frames.specs.AskSlot.{in_full}
use Rattle.cilk_frames.specs.Cursor.{CursorView}
use Rattle.cilk_frames.specs.Following.{Steps}
use Rattle.cilk_frames.proofs.Following.{Loop, has_room, loop_begins, goes_on, loop_goes, loop_still, loop_waits, loop_stops, stands_on}
use Rattle.cilk_frames.proofs.stepping.go_on.Goals as goal

pub receive-requires-clause-room : goal.receive-requires-clause-room
receive-requires-clause-room c = has_room c.args.code.now c.args.input.now c.args.cursor.now c.requires.runs

pub each-init : goal.each-init
each-init c =
    subst (λ (x : CursorView). Loop c.args.code.now c.args.input.now c.args.cursor.now c.args.answer c.args.left.now x c.args.left.now) (sym c.receive.ensures)
    (loop_begins c.args.code.now c.args.input.now c.args.cursor.now c.args.answer c.args.left.now c.requires.fits)

pub exec_plain-requires-clause-moves : goal.exec_plain-requires-clause-moves
exec_plain-requires-clause-moves c = (c.args.input.now, goes_on c.args.code.now c.args.input.now c.args.cursor.now c.args.answer c.args.left.now c.each.cursor c.each.left c.each.invariant c.requires.runs)

pub each-preserved-then-exec_plain : goal.each-preserved-then-exec_plain
each-preserved-then-exec_plain c =
    loop_goes c.args.code.now c.args.input.now c.args.cursor.now c.args.answer c.args.left.now c.each.cursor c.each.left c.exec_plain.new.cursor c.exec_plain.new.left c.each.invariant c.exec_plain.ensures.room c.exec_plain.ensures.given (c.exec_plain.ensures.moves c.args.input.now c.if-exec_plain.true)

pub exec_instr-requires-clause-moves : goal.exec_instr-requires-clause-moves
exec_instr-requires-clause-moves c =
    let same = c.exec_plain.ensures.stays c.if-exec_plain.false in
    let loop = loop_still c.args.code.now c.args.input.now c.args.cursor.now c.args.answer c.args.left.now c.each.cursor c.exec_plain.new.cursor c.each.left c.exec_plain.new.left same.0 same.1 c.each.invariant in
    goes_on c.args.code.now c.args.input.now c.args.cursor.now c.args.answer c.args.left.now c.exec_plain.new.cursor c.exec_plain.new.left loop c.requires.runs

pub each-preserved : goal.each-preserved
each-preserved c =
    let same = c.exec_plain.ensures.stays c.if-exec_plain.false in
    let loop = loop_still c.args.code.now c.args.input.now c.args.cursor.now c.args.answer c.args.left.now c.each.cursor c.exec_plain.new.cursor c.each.left c.exec_plain.new.left same.0 same.1 c.each.invariant in
    loop_goes c.args.code.now c.args.input.now c.args.cursor.now c.args.answer c.args.left.now c.exec_plain.new.cursor c.exec_plain.new.left c.exec_instr.new.cursor c.exec_instr.new.left loop c.exec_instr.ensures.room c.exec_instr.ensures.given c.in-Goes.ensures.moves

pub returns-in-Waits : goal.returns-in-Waits
returns-in-Waits c =
    let same = c.exec_plain.ensures.stays c.if-exec_plain.false in
    let loop = loop_still c.args.code.now c.args.input.now c.args.cursor.now c.args.answer c.args.left.now c.each.cursor c.exec_plain.new.cursor c.each.left c.exec_plain.new.left same.0 same.1 c.each.invariant in
    let k = in_full c.in-Waits.ask in
    let steps = subst (λ k. Steps c.args.code.now c.args.input.now c.args.cursor.now c.args.answer c.args.left.now k c.exec_instr.new.cursor c.exec_instr.new.left) (sym c.put.ensures) (loop_waits c.args.code.now c.args.input.now c.args.cursor.now c.args.answer c.args.left.now c.exec_plain.new.cursor c.exec_plain.new.left c.exec_instr.new.cursor c.exec_instr.new.left loop c.exec_instr.ensures.room c.exec_instr.ensures.given k c.in-Waits.ensures.moves) in
    record { follows = steps; stands = stands_on c.args.code.now c.args.input.now c.args.cursor.now c.args.answer c.args.left.now c.put.new.self c.exec_instr.new.cursor c.exec_instr.new.left steps }

pub returns-in-Stops : goal.returns-in-Stops
returns-in-Stops c =
    let same = c.exec_plain.ensures.stays c.if-exec_plain.false in
    let loop = loop_still c.args.code.now c.args.input.now c.args.cursor.now c.args.answer c.args.left.now c.each.cursor c.exec_plain.new.cursor c.each.left c.exec_plain.new.left same.0 same.1 c.each.invariant in
    let k = in_full c.in-Stops.ask in
    let steps = subst (λ k. Steps c.args.code.now c.args.input.now c.args.cursor.now c.args.answer c.args.left.now k c.exec_instr.new.cursor c.exec_instr.new.left) (sym c.put-in-Stops.ensures) (loop_stops c.args.code.now c.args.input.now c.args.cursor.now c.args.answer c.args.left.now c.exec_plain.new.cursor c.exec_plain.new.left k c.exec_instr.new.cursor c.exec_instr.new.left loop c.in-Stops.ensures.moves) in
    record { follows = steps; stands = stands_on c.args.code.now c.args.input.now c.args.cursor.now c.args.answer c.args.left.now c.put-in-Stops.new.self c.exec_instr.new.cursor c.exec_instr.new.left steps }

pub invoke-requires : goal.invoke-requires
invoke-requires c =
    let same = c.exec_plain.ensures.stays c.if-exec_plain.false in
    let loop = loop_still c.args.code.now c.args.input.now c.args.cursor.now c.args.answer c.args.left.now c.each.cursor c.exec_plain.new.cursor c.each.left c.exec_plain.new.left same.0 same.1 c.each.invariant in
    let moves = goes_on c.args.code.now c.args.input.now c.args.cursor.now c.args.answer c.args.left.now c.exec_plain.new.cursor c.exec_plain.new.left loop c.requires.runs in
    (c.exec_instr.new.left, λ stuck. moves (c.in-Invokes.ensures.moves ∙ stuck))

pub returns-in-Invokes : goal.returns-in-Invokes
returns-in-Invokes c =
    let same = c.exec_plain.ensures.stays c.if-exec_plain.false in
    let loop = loop_still c.args.code.now c.args.input.now c.args.cursor.now c.args.answer c.args.left.now c.each.cursor c.exec_plain.new.cursor c.each.left c.exec_plain.new.left same.0 same.1 c.each.invariant in
    let is = c.in-Invokes.ensures.moves ∙ c.invoke.ensures.moves c.exec_instr.new.left in
    let steps = loop_waits c.args.code.now c.args.input.now c.args.cursor.now c.args.answer c.args.left.now c.exec_plain.new.cursor c.exec_plain.new.left c.invoke.new.cursor c.exec_instr.new.left loop (c.invoke.ensures.room ∙ c.exec_instr.ensures.room) (c.invoke.ensures.given ∙ c.exec_instr.ensures.given) c.invoke.new.asked is in
    record { follows = steps; stands = stands_on c.args.code.now c.args.input.now c.args.cursor.now c.args.answer c.args.left.now c.invoke.new.asked c.invoke.new.cursor c.exec_instr.new.left steps }
