use Rattle.std.proofs.Common.{◌≡◌, ◌+◌, ◌-◌, ◌*◌, ◌<◌, ◌≤◌, [], length, refl, sym, ap, ◌∙◌, subst, arith, append-nil}
use Rattle.std.proofs.lemmas.List.Elements.{All-nil}
use Rattle.cilk_types.specs.declared.limits.TheConstants.{MAX_EVENTS}
use Rattle.cilk_program.specs.Sources.{source}
use Rattle.cilk_frames.specs.AskSlot.{in_full}
use Rattle.cilk_frames.specs.Cursor.{CursorView}
use Rattle.cilk_frames.specs.Following.{Fits}
use Rattle.cilk_frames.specs.Moving.{HasRoom, effort, invoking, told}
use Rattle.cilk_frames.proofs.Asking.{asking_fits}
use Rattle.cilk_frames.proofs.Effort.{effort_after_event}
use Rattle.cilk_frames.proofs.Following.{goes_on, has_room, less_on}
use Rattle.cilk_serial.specs.declared.answer.Told.TheVariants.{Goes}
use Rattle.cilk_serial.specs.declared.running.Running.{Running}
use Rattle.cilk_serial.specs.declared.state.State.{State}
use Rattle.cilk_serial.specs.Going.{AddsNoFrame, Going, run_of}
use Rattle.cilk_serial.specs.Scoped.{IsThere}
use Rattle.cilk_serial.specs.SoFar.{BeginsNoFrame}
use Rattle.cilk_serial.proofs.Answering.{unchanged}
use Rattle.cilk_serial.proofs.Between.{asks, few_cells, goes, on_top_still, one_more_event, runs, still, stops}
use Rattle.cilk_serial.proofs.Driving.{going_seen, going_there, inner_has, told_as}
use Rattle.cilk_serial.proofs.Homes.{on_top}
use Rattle.cilk_serial.proofs.running.Running.run_on.Goals as goal

pub answer-requires-clause-there : goal.answer-requires-clause-there
answer-requires-clause-there g c =
    let p = c.args.program.now in
    let r = c.args.self.now in
    let g = c.requires in
    let there = subst (λ k. IsThere (source p) g.frame (length r.state.cells.items) k) c.in-Some.ensures (going_there c.args.code.now (source c.args.program.now) c.args.input.now r p.well_named g) in
    (source p, g.frame, on_top (source p) r.frames g.frame g.parents (going_seen c.args.code.now (source c.args.program.now) c.args.input.now r g), there)

pub returns-in_default-2 : goal.returns-in_default-2
returns-in_default-2 g c =
    let p = source c.args.program.now in
    let r = c.args.self.now in
    let g = c.requires in
    let same = unchanged p g.frame r.state c.answer.new.state (in_full c.in-Some.ask.now) c.in_ok-told.field-0 c.in_default-2.not-Goes (c.in_ok-told.ensures p g.frame (on_top p r.frames g.frame g.parents (going_seen c.args.code.now (source c.args.program.now) c.args.input.now r g))) in
    record {
      going = subst (λ (s : State). Going c.args.code.now (source c.args.program.now) c.args.input.now (record { state = s; frames = r.frames; ask = r.ask; left = r.left })) (sym same) g;
      later = ([], ap (λ (s : State). s.events.items) same ∙ sym (append-nil r.state.events.items), All-nil BeginsNoFrame);
    }

pub receive-requires-clause-fits : goal.receive-requires-clause-fits
receive-requires-clause-fits g c =
    let p = source c.args.program.now in
    let r = c.args.self.now in
    let g = c.requires in
    let tells = told_as p g.frame r.state c.answer.new.state r.ask (in_full c.in-Some.ask.now) c.in_ok-told.field-0 (Goes c.in-Goes.told) c.in-Some.ensures c.in-Goes.is (c.in_ok-told.ensures p g.frame (on_top p r.frames g.frame g.parents (going_seen c.args.code.now (source c.args.program.now) c.args.input.now r g))) in
    let fits = tells.2 in
    subst (λ (x : CursorView). Fits x.owed c.in-Goes.told) (sym c.replace-cursor.ensures.value)
    (asking_fits c.args.code.now c.args.input.now p g.frame.callee r.frames.top.cursor g.history g.took r.ask r.left c.in-Goes.told g.asking (inner_has r.ask tells.0) fits.fits)

pub receive-requires-clause-room : goal.receive-requires-clause-room
receive-requires-clause-room g c =
    let p = source c.args.program.now in
    let r = c.args.self.now in
    let g = c.requires in
    let tells = told_as p g.frame r.state c.answer.new.state r.ask (in_full c.in-Some.ask.now) c.in_ok-told.field-0 (Goes c.in-Goes.told) c.in-Some.ensures c.in-Goes.is (c.in_ok-told.ensures p g.frame (on_top p r.frames g.frame g.parents (going_seen c.args.code.now (source c.args.program.now) c.args.input.now r g))) in
    subst HasRoom (sym c.replace-cursor.ensures.value) (has_room c.args.code.now c.args.input.now r.frames.top.cursor (_, g.asking.stands (inner_has r.ask tells.0)))

pub each-init : goal.each-init
each-init g c =
    let p = source c.args.program.now in
    let r = c.args.self.now in
    let g = c.requires in
    let tells = told_as p g.frame r.state c.answer.new.state r.ask (in_full c.in-Some.ask.now) c.in_ok-told.field-0 (Goes c.in-Goes.told) c.in-Some.ensures c.in-Goes.is (c.in_ok-told.ensures p g.frame (on_top p r.frames g.frame g.parents (going_seen c.args.code.now (source c.args.program.now) c.args.input.now r g))) in
    let none : AddsNoFrame r.state r.state = ([], sym (append-nil r.state.events.items), All-nil BeginsNoFrame) in
    let is = c.receive.ensures ∙ ap (λ (x : CursorView). told x c.in-Goes.told) c.replace-cursor.ensures.value in
    (one_more_event c.args.code.now (source c.args.program.now) c.args.input.now r.state r c.answer.new.state (record r.frames { top = record r.frames.top { cursor = c.replace-cursor.new.dest } }) c.in-Goes.told c.receive.new.self none g tells is refl).0

pub exec_plain-requires-clause-moves : goal.exec_plain-requires-clause-moves
exec_plain-requires-clause-moves g c =
    let b = c.each.invariant.between in
    (c.args.input.now, goes_on c.args.code.now c.args.input.now b.before.frames.top.cursor b.answer b.before.left c.each.cursor c.each.left b.moves (runs c.args.code.now (source c.args.program.now) c.args.input.now c.each.self.state c.each.self.frames c.each.cursor c.each.left b))

pub each-preserved-then-exec_plain : goal.each-preserved-then-exec_plain
each-preserved-then-exec_plain g c = record {
  between = goes c.args.code.now (source c.args.program.now) c.args.input.now c.each.self.state c.each.self.frames c.each.cursor c.each.left c.each.invariant.between c.exec_plain.new.cursor c.exec_plain.new.left c.exec_plain.ensures.room c.exec_plain.ensures.given (c.exec_plain.ensures.moves c.args.input.now c.if-exec_plain.true);
  counted = c.each.invariant.counted;
  later = c.each.invariant.later;
}

pub exec_instr-requires-clause-moves : goal.exec_instr-requires-clause-moves
exec_instr-requires-clause-moves g c =
    let same = c.exec_plain.ensures.stays c.if-exec_plain.false in
    let b = still c.args.code.now (source c.args.program.now) c.args.input.now c.each.self.state c.each.self.frames c.each.cursor c.exec_plain.new.cursor c.each.left c.exec_plain.new.left same.0 same.1 c.each.invariant.between in
    goes_on c.args.code.now c.args.input.now b.before.frames.top.cursor b.answer b.before.left c.exec_plain.new.cursor c.exec_plain.new.left b.moves (runs c.args.code.now (source c.args.program.now) c.args.input.now c.each.self.state c.each.self.frames c.exec_plain.new.cursor c.exec_plain.new.left b)

pub each-preserved-in-Goes-exec_instr : goal.each-preserved-in-Goes-exec_instr
each-preserved-in-Goes-exec_instr g c =
    let same = c.exec_plain.ensures.stays c.if-exec_plain.false in
    let b = still c.args.code.now (source c.args.program.now) c.args.input.now c.each.self.state c.each.self.frames c.each.cursor c.exec_plain.new.cursor c.each.left c.exec_plain.new.left same.0 same.1 c.each.invariant.between in
    record {
      between = goes c.args.code.now (source c.args.program.now) c.args.input.now c.each.self.state c.each.self.frames c.exec_plain.new.cursor c.exec_plain.new.left b c.exec_instr.new.cursor c.exec_instr.new.left c.exec_instr.ensures.room c.exec_instr.ensures.given c.in-Goes-exec_instr.ensures.moves;
      counted = c.each.invariant.counted;
      later = c.each.invariant.later;
    }

pub answer-requires-in-Waits-clause-few : goal.answer-requires-in-Waits-clause-few
answer-requires-in-Waits-clause-few g c =
    let same = c.exec_plain.ensures.stays c.if-exec_plain.false in
    let b = still c.args.code.now (source c.args.program.now) c.args.input.now c.each.self.state c.each.self.frames c.each.cursor c.exec_plain.new.cursor c.each.left c.exec_plain.new.left same.0 same.1 c.each.invariant.between in
    let k = in_full c.in-Waits.ask in
    let g = asks c.args.code.now (source c.args.program.now) c.args.input.now c.each.self.state c.each.self.frames c.exec_plain.new.cursor c.exec_plain.new.left b c.exec_instr.new.cursor c.exec_instr.new.left c.exec_instr.ensures.room c.exec_instr.ensures.given k c.in-Waits.ensures.moves in
    few_cells c.args.code.now (source c.args.program.now) c.args.input.now (run_of c.each.self.state c.each.self.frames c.exec_instr.new.cursor k c.exec_instr.new.left) g

pub answer-requires-in-Waits-clause-there : goal.answer-requires-in-Waits-clause-there
answer-requires-in-Waits-clause-there g c =
    let same = c.exec_plain.ensures.stays c.if-exec_plain.false in
    let b = still c.args.code.now (source c.args.program.now) c.args.input.now c.each.self.state c.each.self.frames c.each.cursor c.exec_plain.new.cursor c.each.left c.exec_plain.new.left same.0 same.1 c.each.invariant.between in
    let k = in_full c.in-Waits.ask in
    let g = asks c.args.code.now (source c.args.program.now) c.args.input.now c.each.self.state c.each.self.frames c.exec_plain.new.cursor c.exec_plain.new.left b c.exec_instr.new.cursor c.exec_instr.new.left c.exec_instr.ensures.room c.exec_instr.ensures.given k c.in-Waits.ensures.moves in
    let p = c.args.program.now in
    (source p, g.frame, (on_top_still c.args.code.now (source c.args.program.now) c.args.input.now c.each.self.state c.each.self.frames c.exec_instr.new.cursor k c.exec_instr.new.left g), going_there c.args.code.now (source c.args.program.now) c.args.input.now (run_of c.each.self.state c.each.self.frames c.exec_instr.new.cursor k c.exec_instr.new.left) p.well_named g)

pub receive-requires-in-Goes-effect-clause-fits : goal.receive-requires-in-Goes-effect-clause-fits
receive-requires-in-Goes-effect-clause-fits g c =
    let p = source c.args.program.now in
    let same = c.exec_plain.ensures.stays c.if-exec_plain.false in
    let b = still c.args.code.now (source c.args.program.now) c.args.input.now c.each.self.state c.each.self.frames c.each.cursor c.exec_plain.new.cursor c.each.left c.exec_plain.new.left same.0 same.1 c.each.invariant.between in
    let k = in_full c.in-Waits.ask in
    let g = asks c.args.code.now (source c.args.program.now) c.args.input.now c.each.self.state c.each.self.frames c.exec_plain.new.cursor c.exec_plain.new.left b c.exec_instr.new.cursor c.exec_instr.new.left c.exec_instr.ensures.room c.exec_instr.ensures.given k c.in-Waits.ensures.moves in
    let tells = told_as p g.frame c.each.self.state c.answer-in-Waits.new.state k k c.in-Ok.effect (Goes c.in-Goes-effect.told) refl c.in-Goes-effect.is (c.in-Ok.ensures p g.frame (on_top_still c.args.code.now (source c.args.program.now) c.args.input.now c.each.self.state c.each.self.frames c.exec_instr.new.cursor k c.exec_instr.new.left g)) in
    let fits = tells.2 in
    asking_fits c.args.code.now c.args.input.now p g.frame.callee c.exec_instr.new.cursor g.history g.took k c.exec_instr.new.left c.in-Goes-effect.told g.asking (inner_has k tells.0) fits.fits

pub receive-requires-in-Goes-effect-clause-room : goal.receive-requires-in-Goes-effect-clause-room
receive-requires-in-Goes-effect-clause-room g c =
    let p = source c.args.program.now in
    let same = c.exec_plain.ensures.stays c.if-exec_plain.false in
    let b = still c.args.code.now (source c.args.program.now) c.args.input.now c.each.self.state c.each.self.frames c.each.cursor c.exec_plain.new.cursor c.each.left c.exec_plain.new.left same.0 same.1 c.each.invariant.between in
    let k = in_full c.in-Waits.ask in
    let g = asks c.args.code.now (source c.args.program.now) c.args.input.now c.each.self.state c.each.self.frames c.exec_plain.new.cursor c.exec_plain.new.left b c.exec_instr.new.cursor c.exec_instr.new.left c.exec_instr.ensures.room c.exec_instr.ensures.given k c.in-Waits.ensures.moves in
    let tells = told_as p g.frame c.each.self.state c.answer-in-Waits.new.state k k c.in-Ok.effect (Goes c.in-Goes-effect.told) refl c.in-Goes-effect.is (c.in-Ok.ensures p g.frame (on_top_still c.args.code.now (source c.args.program.now) c.args.input.now c.each.self.state c.each.self.frames c.exec_instr.new.cursor k c.exec_instr.new.left g)) in
    has_room c.args.code.now c.args.input.now c.exec_instr.new.cursor (_, g.asking.stands (inner_has k tells.0))

pub each-preserved : goal.each-preserved
each-preserved g c =
    let p = source c.args.program.now in
    let same = c.exec_plain.ensures.stays c.if-exec_plain.false in
    let b = still c.args.code.now (source c.args.program.now) c.args.input.now c.each.self.state c.each.self.frames c.each.cursor c.exec_plain.new.cursor c.each.left c.exec_plain.new.left same.0 same.1 c.each.invariant.between in
    let k = in_full c.in-Waits.ask in
    let g = asks c.args.code.now (source c.args.program.now) c.args.input.now c.each.self.state c.each.self.frames c.exec_plain.new.cursor c.exec_plain.new.left b c.exec_instr.new.cursor c.exec_instr.new.left c.exec_instr.ensures.room c.exec_instr.ensures.given k c.in-Waits.ensures.moves in
    let tells = told_as p g.frame c.each.self.state c.answer-in-Waits.new.state k k c.in-Ok.effect (Goes c.in-Goes-effect.told) refl c.in-Goes-effect.is (c.in-Ok.ensures p g.frame (on_top_still c.args.code.now (source c.args.program.now) c.args.input.now c.each.self.state c.each.self.frames c.exec_instr.new.cursor k c.exec_instr.new.left g)) in
    (one_more_event c.args.code.now (source c.args.program.now) c.args.input.now c.args.self.now.state (run_of c.each.self.state c.each.self.frames c.exec_instr.new.cursor k c.exec_instr.new.left) c.answer-in-Waits.new.state c.each.self.frames c.in-Goes-effect.told c.receive-in-Goes-effect.new.self c.each.invariant.later g tells c.receive-in-Goes-effect.ensures refl).0

pub each-smaller : goal.each-smaller
each-smaller g c =
    let p = source c.args.program.now in
    let same = c.exec_plain.ensures.stays c.if-exec_plain.false in
    let b = still c.args.code.now (source c.args.program.now) c.args.input.now c.each.self.state c.each.self.frames c.each.cursor c.exec_plain.new.cursor c.each.left c.exec_plain.new.left same.0 same.1 c.each.invariant.between in
    let k = in_full c.in-Waits.ask in
    let g = asks c.args.code.now (source c.args.program.now) c.args.input.now c.each.self.state c.each.self.frames c.exec_plain.new.cursor c.exec_plain.new.left b c.exec_instr.new.cursor c.exec_instr.new.left c.exec_instr.ensures.room c.exec_instr.ensures.given k c.in-Waits.ensures.moves in
    let tells = told_as p g.frame c.each.self.state c.answer-in-Waits.new.state k k c.in-Ok.effect (Goes c.in-Goes-effect.told) refl c.in-Goes-effect.is (c.in-Ok.ensures p g.frame (on_top_still c.args.code.now (source c.args.program.now) c.args.input.now c.each.self.state c.each.self.frames c.exec_instr.new.cursor k c.exec_instr.new.left g)) in
    let count = (one_more_event c.args.code.now (source c.args.program.now) c.args.input.now c.args.self.now.state (run_of c.each.self.state c.each.self.frames c.exec_instr.new.cursor k c.exec_instr.new.left) c.answer-in-Waits.new.state c.each.self.frames c.in-Goes-effect.told c.receive-in-Goes-effect.new.self c.each.invariant.later g tells c.receive-in-Goes-effect.ensures refl).1 in
    let less = less_on c.args.code.now c.args.input.now b.before.frames.top.cursor b.answer b.before.left c.exec_plain.new.cursor c.exec_plain.new.left _ c.in-Waits.ensures.moves in
    let n = length c.each.self.state.events.items in
    let left : 0 < MAX_EVENTS - n = omega (arith, tells.1) in
    let fewer : MAX_EVENTS - length c.answer-in-Waits.new.state.events.items ≡ MAX_EVENTS - n - 1 = omega (arith, count) in
    let ticks : c.exec_instr.new.left ≤ c.each.left = omega (arith, less, same.1) in
    subst (λ m. m * (length c.args.code.now.instrs + 2) + effort c.args.code.now.instrs c.receive-in-Goes-effect.new.self.place c.exec_instr.new.left < (MAX_EVENTS - n) * (length c.args.code.now.instrs + 2) + effort c.args.code.now.instrs c.each.cursor.place c.each.left) (sym fewer)
    (effort_after_event c.args.code.now.instrs (MAX_EVENTS - n) c.each.cursor.place c.each.left c.receive-in-Goes-effect.new.self.place c.exec_instr.new.left left ticks)

pub invoke-requires : goal.invoke-requires
invoke-requires g c =
    let same = c.exec_plain.ensures.stays c.if-exec_plain.false in
    let b = still c.args.code.now (source c.args.program.now) c.args.input.now c.each.self.state c.each.self.frames c.each.cursor c.exec_plain.new.cursor c.each.left c.exec_plain.new.left same.0 same.1 c.each.invariant.between in
    let moves = goes_on c.args.code.now c.args.input.now b.before.frames.top.cursor b.answer b.before.left c.exec_plain.new.cursor c.exec_plain.new.left b.moves (runs c.args.code.now (source c.args.program.now) c.args.input.now c.each.self.state c.each.self.frames c.exec_plain.new.cursor c.exec_plain.new.left b) in
    let there = ap (λ (r : Running). r.frames.top.cursor) c.put_back.ensures in
    (c.exec_instr.new.left, λ stuck. moves (c.in-Invokes.ensures.moves ∙ ap (λ x. invoking c.args.code.now c.in-Invokes.number x c.exec_instr.new.left) (sym there) ∙ stuck))

pub returns-in_default-effect : goal.returns-in_default-effect
returns-in_default-effect g c =
    let p = source c.args.program.now in
    let same = c.exec_plain.ensures.stays c.if-exec_plain.false in
    let b = still c.args.code.now (source c.args.program.now) c.args.input.now c.each.self.state c.each.self.frames c.each.cursor c.exec_plain.new.cursor c.each.left c.exec_plain.new.left same.0 same.1 c.each.invariant.between in
    let k = in_full c.in-Waits.ask in
    let g = asks c.args.code.now (source c.args.program.now) c.args.input.now c.each.self.state c.each.self.frames c.exec_plain.new.cursor c.exec_plain.new.left b c.exec_instr.new.cursor c.exec_instr.new.left c.exec_instr.ensures.room c.exec_instr.ensures.given k c.in-Waits.ensures.moves in
    let state = unchanged p g.frame c.each.self.state c.answer-in-Waits.new.state k c.in-Ok.effect c.in_default-effect.not-Goes (c.in-Ok.ensures p g.frame (on_top_still c.args.code.now (source c.args.program.now) c.args.input.now c.each.self.state c.each.self.frames c.exec_instr.new.cursor k c.exec_instr.new.left g)) in
    record {
      going = subst (λ (r : Running). Going c.args.code.now (source c.args.program.now) c.args.input.now r) (sym c.pause.ensures)
          (subst (λ (s : State). Going c.args.code.now (source c.args.program.now) c.args.input.now (run_of s c.each.self.frames c.exec_instr.new.cursor k c.exec_instr.new.left)) (sym state) g);
      later = subst (λ (r : Running). AddsNoFrame c.args.self.now.state r.state) (sym c.pause.ensures) (subst (λ (s : State). AddsNoFrame c.args.self.now.state s) (sym state) c.each.invariant.later);
    }

pub returns-in-Stops-clause-going : goal.returns-in-Stops-clause-going
returns-in-Stops-clause-going g c =
    let same = c.exec_plain.ensures.stays c.if-exec_plain.false in
    let b = still c.args.code.now (source c.args.program.now) c.args.input.now c.each.self.state c.each.self.frames c.each.cursor c.exec_plain.new.cursor c.each.left c.exec_plain.new.left same.0 same.1 c.each.invariant.between in
    subst (λ (r : Running). Going c.args.code.now (source c.args.program.now) c.args.input.now r) (sym c.pause-in-Stops.ensures)
    (stops c.args.code.now (source c.args.program.now) c.args.input.now c.each.self.state c.each.self.frames c.exec_plain.new.cursor c.exec_plain.new.left b c.exec_instr.new.cursor c.exec_instr.new.left (in_full c.in-Stops.ask) c.in-Stops.ensures.moves)

pub returns-in-Invokes-clause-going : goal.returns-in-Invokes-clause-going
returns-in-Invokes-clause-going g c =
    let same = c.exec_plain.ensures.stays c.if-exec_plain.false in
    let b = still c.args.code.now (source c.args.program.now) c.args.input.now c.each.self.state c.each.self.frames c.each.cursor c.exec_plain.new.cursor c.each.left c.exec_plain.new.left same.0 same.1 c.each.invariant.between in
    let there = ap (λ (r : Running). r.frames.top.cursor) c.put_back.ensures in
    let room = c.invoke.ensures.room ∙ ap (λ (x : CursorView). x.room) there ∙ c.exec_instr.ensures.room in
    let given = c.invoke.ensures.given ∙ ap (λ (x : CursorView). x.given) there ∙ c.exec_instr.ensures.given in
    let moves = c.in-Invokes.ensures.moves ∙ ap (λ x. invoking c.args.code.now c.in-Invokes.number x c.exec_instr.new.left) (sym there) ∙ c.invoke.ensures.moves c.exec_instr.new.left in
    let g = asks c.args.code.now (source c.args.program.now) c.args.input.now c.each.self.state c.each.self.frames c.exec_plain.new.cursor c.exec_plain.new.left b c.invoke.new.cursor c.exec_instr.new.left room given c.invoke.new.asked moves in
    subst (λ (r : Running). Going c.args.code.now (source c.args.program.now) c.args.input.now (run_of r.state r.frames c.invoke.new.cursor c.invoke.new.asked r.left)) (sym c.put_back.ensures) g
