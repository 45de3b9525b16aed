use Rattle.std.proofs.Common.{length, sym, ap, subst, ◌∙◌, w64, SFits, rules}
use Rattle.std.proofs.lemmas.Int.{to_z-of_z}
use Rattle.cilk_program.specs.declared.ask.Ask.TheVariants.{End}
use Rattle.cilk_program.specs.Sources.{source}
use Rattle.cilk_program.specs.SerialRun.{refused}
use Rattle.cilk_frames.specs.AskSlot.{in_full}
use Rattle.cilk_frames.proofs.Asking.{asking_fits}
use Rattle.cilk_serial.specs.declared.answer.Told.TheVariants.{Goes, Turns, Ends, Stops}
use Rattle.cilk_serial.specs.declared.answer.Told.TheVariants as tolds
use Rattle.cilk_serial.specs.declared.state.State.{State}
use Rattle.cilk_serial.specs.Going.{Going, Progresses}
use Rattle.cilk_serial.specs.Scoped.{IsThere}
use Rattle.cilk_serial.proofs.Driving.{allowed, answers, going_seen, going_there, inner_full, inner_has, stops, stops_full, told_as}
use Rattle.cilk_serial.proofs.Homes.{on_top}
use Rattle.cilk_serial.proofs.running.Running.step.Goals as goal

pub returns-in_default : goal.returns-in_default
returns-in_default g c = c.invoke_function.ensures c.args.input.now c.requires

pub answer-requires-clause-there : goal.answer-requires-clause-there
answer-requires-clause-there g c =
    let p = c.args.program.now in
    let r = c.args.self.now in
    let g = c.requires in
    let there = subst (λ k. IsThere (source p) g.frame (length r.state.cells.items) k) c.in-Some.ensures (going_there c.args.code.now (source p) c.args.input.now r p.well_named g) in
    (source p, g.frame, on_top (source p) r.frames g.frame g.parents (going_seen c.args.code.now (source p) c.args.input.now r g), there)

pub step_into-requires-clause-runs : goal.step_into-requires-clause-runs
step_into-requires-clause-runs g c =
    let p = source c.args.program.now in
    let r = c.args.self.now in
    let g = c.requires in
    let told = told_as p g.frame r.state c.answer.new.state r.ask (in_full c.in-Some.ask.now) c.in-Ok.effect (Goes c.in-Goes.told) c.in-Some.ensures c.in-Goes.is (c.in-Ok.ensures p g.frame (on_top p r.frames g.frame g.parents (going_seen c.args.code.now p c.args.input.now r g))) in
    (_, g.asking.stands (inner_has r.ask told.0))

pub step_into-requires-clause-fits : goal.step_into-requires-clause-fits
step_into-requires-clause-fits g c =
    let p = source c.args.program.now in
    let r = c.args.self.now in
    let g = c.requires in
    let told = told_as p g.frame r.state c.answer.new.state r.ask (in_full c.in-Some.ask.now) c.in-Ok.effect (Goes c.in-Goes.told) c.in-Some.ensures c.in-Goes.is (c.in-Ok.ensures p g.frame (on_top p r.frames g.frame g.parents (going_seen c.args.code.now p c.args.input.now r g))) in
    let fits = told.2 in
    asking_fits c.args.code.now c.args.input.now p g.frame.callee r.frames.top.cursor g.history g.took r.ask r.left c.in-Goes.told g.asking (inner_has r.ask told.0) fits.fits

pub returns-in-Goes : goal.returns-in-Goes
returns-in-Goes g c =
    let p = source c.args.program.now in
    let r = c.args.self.now in
    let g = c.requires in
    let told = told_as p g.frame r.state c.answer.new.state r.ask (in_full c.in-Some.ask.now) c.in-Ok.effect (Goes c.in-Goes.told) c.in-Some.ensures c.in-Goes.is (c.in-Ok.ensures p g.frame (on_top p r.frames g.frame g.parents (going_seen c.args.code.now p c.args.input.now r g))) in
    let made = told.2 in (
      answers c.args.code.now p c.args.input.now r c.answer.new.state c.in-Goes.told c.step_into.new.cursor c.step_into.new.asked c.step_into.new.left g (allowed p r.state r.ask (λ m. inner_full p m r.ask told.0) told.1) told.0 made (c.step_into.ensures.stands p),
      (_, (made.makes g.memory g.shows).1.events),
    )

pub invoke_turns-requires-clause-going : goal.invoke_turns-requires-clause-going
invoke_turns-requires-clause-going g c =
    let p = source c.args.program.now in
    let r = c.args.self.now in
    let g = c.requires in
    let told = told_as p g.frame r.state c.answer.new.state r.ask (in_full c.in-Some.ask.now) c.in-Ok.effect (Turns c.in-Turns.how c.in-Turns.part) c.in-Some.ensures c.in-Turns.is (c.in-Ok.ensures p g.frame (on_top p r.frames g.frame g.parents (going_seen c.args.code.now p c.args.input.now r g))) in
    (c.args.input.now, subst (λ (s : State). Going c.args.code.now p c.args.input.now (record { state = s; frames = r.frames; ask = r.ask; left = r.left })) (sym told.0) g)

pub invoke_turns-requires-clause-begins : goal.invoke_turns-requires-clause-begins
invoke_turns-requires-clause-begins g c =
    let p = source c.args.program.now in
    let r = c.args.self.now in
    let g = c.requires in
    let told = told_as p g.frame r.state c.answer.new.state r.ask (in_full c.in-Some.ask.now) c.in-Ok.effect (Turns c.in-Turns.how c.in-Turns.part) c.in-Some.ensures c.in-Turns.is (c.in-Ok.ensures p g.frame (on_top p r.frames g.frame g.parents (going_seen c.args.code.now p c.args.input.now r g))) in
    told.1

pub returns-in-Turns : goal.returns-in-Turns
returns-in-Turns g c =
    let p = source c.args.program.now in
    let r = c.args.self.now in
    let g = c.requires in
    let told = told_as p g.frame r.state c.answer.new.state r.ask (in_full c.in-Some.ask.now) c.in-Ok.effect (Turns c.in-Turns.how c.in-Turns.part) c.in-Some.ensures c.in-Turns.is (c.in-Ok.ensures p g.frame (on_top p r.frames g.frame g.parents (going_seen c.args.code.now p c.args.input.now r g))) in
    subst (λ (s : State). Progresses c.args.code.now p c.args.input.now (record { state = s; frames = r.frames; ask = r.ask; left = r.left }) c.invoke_turns.result c.invoke_turns.new.self) told.0
    (c.invoke_turns.ensures c.args.input.now (subst (λ (s : State). Going c.args.code.now p c.args.input.now (record { state = s; frames = r.frames; ask = r.ask; left = r.left })) (sym told.0) g))

pub end-requires-clause-going : goal.end-requires-clause-going
end-requires-clause-going g c =
    let p = source c.args.program.now in
    let r = c.args.self.now in
    let g = c.requires in
    let told = told_as p g.frame r.state c.answer.new.state r.ask (in_full c.in-Some.ask.now) c.in-Ok.effect (Ends c.in-Ends.result) c.in-Some.ensures c.in-Ends.is (c.in-Ok.ensures p g.frame (on_top p r.frames g.frame g.parents (going_seen c.args.code.now p c.args.input.now r g))) in
    subst (λ (s : State). Going c.args.code.now p c.args.input.now (record { state = s; frames = r.frames; ask = r.ask; left = r.left })) (sym told.0) g

pub end-requires-clause-ends : goal.end-requires-clause-ends
end-requires-clause-ends g c =
    let p = source c.args.program.now in
    let r = c.args.self.now in
    let g = c.requires in
    let told = told_as p g.frame r.state c.answer.new.state r.ask (in_full c.in-Some.ask.now) c.in-Ok.effect (Ends c.in-Ends.result) c.in-Some.ensures c.in-Ends.is (c.in-Ok.ensures p g.frame (on_top p r.frames g.frame g.parents (going_seen c.args.code.now p c.args.input.now r g))) in
    let fits : SFits w64 c.in-Ends.result = search rules in
    told.1 ∙ ap End (sym (to_z-of_z w64 c.in-Ends.result fits))

pub returns-in-Ends : goal.returns-in-Ends
returns-in-Ends g c =
    let p = source c.args.program.now in
    let r = c.args.self.now in
    let g = c.requires in
    let told = told_as p g.frame r.state c.answer.new.state r.ask (in_full c.in-Some.ask.now) c.in-Ok.effect (Ends c.in-Ends.result) c.in-Some.ensures c.in-Ends.is (c.in-Ok.ensures p g.frame (on_top p r.frames g.frame g.parents (going_seen c.args.code.now p c.args.input.now r g))) in
    subst (λ (s : State). Progresses c.args.code.now p c.args.input.now (record { state = s; frames = r.frames; ask = r.ask; left = r.left }) c.end.result c.end.new.self) told.0 c.end.ensures

pub returns-in-Stops : goal.returns-in-Stops
returns-in-Stops g c =
    let p = source c.args.program.now in
    let r = c.args.self.now in
    let g = c.requires in
    let told = told_as p g.frame r.state c.answer.new.state r.ask (in_full c.in-Some.ask.now) c.in-Ok.effect (Stops c.in-Stops.fault) c.in-Some.ensures c.in-Stops.is (c.in-Ok.ensures p g.frame (on_top p r.frames g.frame g.parents (going_seen c.args.code.now p c.args.input.now r g))) in (
      ap (λ (s : State). record { state = s; frames = r.frames; ask = r.ask; left = r.left }) told.0,
      stops c.args.code.now p c.args.input.now r c.in-Stops.fault c.args.program.now.well_named g (λ m h. sym (ap (λ k. refused p m k) told.1)),
    )

pub returns-in-Full : goal.returns-in-Full
returns-in-Full g c =
    let p = source c.args.program.now in
    let r = c.args.self.now in
    let g = c.requires in
    let told = told_as p g.frame r.state c.answer.new.state r.ask (in_full c.in-Some.ask.now) c.in-Ok.effect tolds.Full c.in-Some.ensures c.in-Full.is (c.in-Ok.ensures p g.frame (on_top p r.frames g.frame g.parents (going_seen c.args.code.now p c.args.input.now r g))) in (
      ap (λ (s : State). record { state = s; frames = r.frames; ask = r.ask; left = r.left }) told.0,
      stops_full c.args.code.now p c.args.input.now r c.args.program.now.well_named g (λ m. inner_full p m r.ask told.1) told.2,
    )
