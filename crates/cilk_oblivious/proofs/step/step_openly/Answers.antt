use Rattle.std.proofs.Common.{◌∷◌, sym, ap, ◌∙◌, subst, w64}
use Rattle.std.proofs.lemmas.Int.{to_z-of_z}
use Rattle.std.specs.Prelude.{slice_get}
use Rattle.cilk_program.specs.declared.ask.Ask.{Ask}
use Rattle.cilk_frames.specs.AskSlot.{in_full}
use Rattle.cilk_frames.specs.Following.{Steps}
use Rattle.cilk_frames.proofs.Following.{has_room, goes_on}
use Rattle.cilk_oblivious.specs.Cursors.{StepsOpenly, hidden_of}
use Rattle.cilk_oblivious.proofs.Steps.{begins, goes, waits, stops, there, site_there, place_there}
use Rattle.cilk_oblivious.proofs.step.step_openly.Goals as goal

pub receive-requires-clause-room : goal.receive-requires-clause-room
receive-requires-clause-room c = has_room c.args.code.now c.args.input.now c.args.frame.now.cursor c.requires.runs

pub each-init : goal.each-init
each-init c = begins (hidden_of c.args.hidden.now) c.args.code.now c.args.input.now c.args.frame.now.cursor c.args.frame.now.marks c.args.told.answer c.args.told.mark c.args.request.now.left c.receive.new.self c.receive-2.new.self c.requires.fits c.receive.ensures c.in_ok-receive.ensures

pub at-requires-clause-there : goal.at-requires-clause-there
at-requires-clause-there c =
    let moves = goes_on c.args.code.now c.args.input.now c.args.frame.now.cursor c.args.told.answer c.args.request.now.left c.each.frame.cursor c.each.request.left c.each.invariant.0 c.requires.runs in
    λ e. there c.args.code.now c.args.input.now c.each.frame.cursor c.each.request.left moves (ap (slice_get c.args.code.now.instrs) (sym c.place.ensures) ∙ e)

pub pass-requires : goal.pass-requires
pass-requires c =
    let moves = goes_on c.args.code.now c.args.input.now c.args.frame.now.cursor c.args.told.answer c.args.request.now.left c.each.frame.cursor c.each.request.left c.each.invariant.0 c.requires.runs in
    let at = ap (slice_get c.args.code.now.instrs) (sym c.place.ensures) ∙ c.at.ensures.value in
    record { site = λ k is. site_there c.args.code.now c.args.input.now c.each.frame.cursor c.each.request.left moves c.at.result.now at k is }

pub exec_instr-requires-clause-moves : goal.exec_instr-requires-clause-moves
exec_instr-requires-clause-moves c = goes_on c.args.code.now c.args.input.now c.args.frame.now.cursor c.args.told.answer c.args.request.now.left c.each.frame.cursor c.each.request.left c.each.invariant.0 c.requires.runs

pub each-preserved : goal.each-preserved
each-preserved c =
    let moves = goes_on c.args.code.now c.args.input.now c.args.frame.now.cursor c.args.told.answer c.args.request.now.left c.each.frame.cursor c.each.request.left c.each.invariant.0 c.requires.runs in
    let at = ap (slice_get c.args.code.now.instrs) (sym c.place.ensures) ∙ c.at.ensures.value in
    let top = to_z-of_z w64 c.top-top.result (record { sfits = c.top-top.type_inv }) in
    let pass =
    c.in_ok-pass.ensures.after c.if-not-branch.false c.each.frame.cursor.stack
    (λ is.
    let p = place_there c.args.code.now c.args.input.now c.each.frame.cursor c.each.request.left moves c.at.result.now at c.top-top.result c.top-top.ensures is in
    (p.0, p.1 ∙ ap (λ z. z ∷ p.0) (sym top))) in
    goes (hidden_of c.args.hidden.now) c.args.code.now c.args.input.now c.args.frame.now.cursor c.args.frame.now.marks c.args.told.answer c.args.told.mark c.args.request.now.left c.each.frame.cursor c.each.frame.marks c.each.request.left c.each.invariant c.at.result.now at
    c.pass.new.sent.items c.pass.new.self pass c.in_ok-pass.ensures.words c.exec_instr.new.cursor c.exec_instr.new.left c.exec_instr.ensures.room c.exec_instr.ensures.given c.in-Goes.ensures.moves

pub invoke-requires : goal.invoke-requires
invoke-requires c =
    let moves = goes_on c.args.code.now c.args.input.now c.args.frame.now.cursor c.args.told.answer c.args.request.now.left c.each.frame.cursor c.each.request.left c.each.invariant.0 c.requires.runs in
    (c.exec_instr.new.left, λ stuck. moves (c.in-Invokes.ensures.moves ∙ stuck))

pub returns-in-Invokes : goal.returns-in-Invokes
returns-in-Invokes c =
    let moves = goes_on c.args.code.now c.args.input.now c.args.frame.now.cursor c.args.told.answer c.args.request.now.left c.each.frame.cursor c.each.request.left c.each.invariant.0 c.requires.runs in
    let at = ap (slice_get c.args.code.now.instrs) (sym c.place.ensures) ∙ c.at.ensures.value in
    let top = to_z-of_z w64 c.top-top.result (record { sfits = c.top-top.type_inv }) in
    let pass =
    c.in_ok-pass.ensures.after c.if-not-branch.false c.each.frame.cursor.stack
    (λ is.
    let p = place_there c.args.code.now c.args.input.now c.each.frame.cursor c.each.request.left moves c.at.result.now at c.top-top.result c.top-top.ensures is in
    (p.0, p.1 ∙ ap (λ z. z ∷ p.0) (sym top))) in
    let is = c.in-Invokes.ensures.moves ∙ c.invoke.ensures.moves c.exec_instr.new.left in
    let s = waits (hidden_of c.args.hidden.now) c.args.code.now c.args.input.now c.args.frame.now.cursor c.args.frame.now.marks c.args.told.answer c.args.told.mark c.args.request.now.left c.each.frame.cursor c.each.frame.marks c.each.request.left c.each.invariant c.at.result.now at
    c.pass.new.sent.items c.pass.new.self pass c.in_ok-pass.ensures.words c.invoke.new.asked c.invoke.new.cursor c.exec_instr.new.left (c.invoke.ensures.room ∙ c.exec_instr.ensures.room) (c.invoke.ensures.given ∙ c.exec_instr.ensures.given) is in
    record { steps = λ _. s.0; openly = λ _. s.1 }

pub returns-in-Waits : goal.returns-in-Waits
returns-in-Waits c =
    let moves = goes_on c.args.code.now c.args.input.now c.args.frame.now.cursor c.args.told.answer c.args.request.now.left c.each.frame.cursor c.each.request.left c.each.invariant.0 c.requires.runs in
    let at = ap (slice_get c.args.code.now.instrs) (sym c.place.ensures) ∙ c.at.ensures.value in
    let top = to_z-of_z w64 c.top-top.result (record { sfits = c.top-top.type_inv }) in
    let pass =
    c.in_ok-pass.ensures.after c.if-not-branch.false c.each.frame.cursor.stack
    (λ is.
    let p = place_there c.args.code.now c.args.input.now c.each.frame.cursor c.each.request.left moves c.at.result.now at c.top-top.result c.top-top.ensures is in
    (p.0, p.1 ∙ ap (λ z. z ∷ p.0) (sym top))) in
    let s = waits (hidden_of c.args.hidden.now) c.args.code.now c.args.input.now c.args.frame.now.cursor c.args.frame.now.marks c.args.told.answer c.args.told.mark c.args.request.now.left c.each.frame.cursor c.each.frame.marks c.each.request.left c.each.invariant c.at.result.now at
    c.pass.new.sent.items c.pass.new.self pass c.in_ok-pass.ensures.words (in_full c.in-Waits.ask) c.exec_instr.new.cursor c.exec_instr.new.left c.exec_instr.ensures.room c.exec_instr.ensures.given c.in-Waits.ensures.moves in
    record {
      steps = λ _. subst (λ (k : Ask). Steps c.args.code.now c.args.input.now c.args.frame.now.cursor c.args.told.answer c.args.request.now.left k c.exec_instr.new.cursor c.exec_instr.new.left) (sym c.put.ensures) s.0;
      openly = λ _. subst (λ (k : Ask). StepsOpenly (hidden_of c.args.hidden.now) c.args.code.now c.args.input.now c.args.frame.now.cursor c.args.frame.now.marks c.args.told.answer c.args.told.mark c.args.request.now.left k c.exec_instr.new.cursor c.pass.new.self c.exec_instr.new.left c.pass.new.sent.items) (sym c.put.ensures) s.1;
    }

pub returns-in-Stops : goal.returns-in-Stops
returns-in-Stops c =
    let moves = goes_on c.args.code.now c.args.input.now c.args.frame.now.cursor c.args.told.answer c.args.request.now.left c.each.frame.cursor c.each.request.left c.each.invariant.0 c.requires.runs in
    let at = ap (slice_get c.args.code.now.instrs) (sym c.place.ensures) ∙ c.at.ensures.value in
    let top = to_z-of_z w64 c.top-top.result (record { sfits = c.top-top.type_inv }) in
    let pass =
    c.in_ok-pass.ensures.after c.if-not-branch.false c.each.frame.cursor.stack
    (λ is.
    let p = place_there c.args.code.now c.args.input.now c.each.frame.cursor c.each.request.left moves c.at.result.now at c.top-top.result c.top-top.ensures is in
    (p.0, p.1 ∙ ap (λ z. z ∷ p.0) (sym top))) in
    let s = stops (hidden_of c.args.hidden.now) c.args.code.now c.args.input.now c.args.frame.now.cursor c.args.frame.now.marks c.args.told.answer c.args.told.mark c.args.request.now.left c.each.frame.cursor c.each.frame.marks c.each.request.left c.each.invariant c.at.result.now at
    c.pass.new.sent.items c.pass.new.self pass c.in_ok-pass.ensures.words (in_full c.in-Stops.ask) c.exec_instr.new.cursor c.exec_instr.new.left c.in-Stops.ensures.moves in
    record {
      steps = λ _. subst (λ (k : Ask). Steps c.args.code.now c.args.input.now c.args.frame.now.cursor c.args.told.answer c.args.request.now.left k c.exec_instr.new.cursor c.exec_instr.new.left) (sym c.put-in-Stops.ensures) s.0;
      openly = λ _. subst (λ (k : Ask). StepsOpenly (hidden_of c.args.hidden.now) c.args.code.now c.args.input.now c.args.frame.now.cursor c.args.frame.now.marks c.args.told.answer c.args.told.mark c.args.request.now.left k c.exec_instr.new.cursor c.pass.new.self c.exec_instr.new.left c.pass.new.sent.items) (sym c.put-in-Stops.ensures) s.1;
    }
