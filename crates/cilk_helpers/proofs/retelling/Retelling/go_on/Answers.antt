use Rattle.std.proofs.Common.{length, sym, ap, ◌∙◌, subst, w64, SFits, rules}
use Rattle.std.proofs.lemmas.Int.{to_z-of_z}
use Rattle.cilk_program.specs.declared.ask.Ask.{Ask}
use Rattle.cilk_program.specs.declared.ask.Ask.TheVariants.{End}
use Rattle.cilk_frames.specs.AskSlot.{in_full}
use Rattle.cilk_helpers.specs.Asked.{ask_in}
use Rattle.cilk_serial.specs.declared.answer.Told.TheVariants.{Goes, Turns, Ends}
use Rattle.cilk_serial.specs.declared.state.State.{State}
use Rattle.cilk_serial.specs.Scoped.{IsThere}
use Rattle.cilk_serial.proofs.Driving.{told_as}
use Rattle.cilk_helpers.specs.declared.retelling.Retelling.{Retelling}
use Rattle.cilk_helpers.proofs.Telling.{tells_inner, tells_there}
use Rattle.cilk_helpers.proofs.retelling.Retelling.go_on.Goals as goal

pub answer-requires-clause-few : goal.answer-requires-clause-few
answer-requires-clause-few c =
    let t = c.requires.tells in
    let there = tells_there t.0 t.1 t.2 c.args.self.now t.3 t.4 in
    there.few

pub answer-requires-clause-there : goal.answer-requires-clause-there
answer-requires-clause-there c =
    let t = c.requires.tells in
    let there = tells_there t.0 t.1 t.2 c.args.self.now t.3 t.4 in
    (t.1, there.frame, there.on_top, subst (λ (k : Ask). IsThere t.1 there.frame (length c.args.self.now.state.cells.items) k) c.requires.asked there.asked)

pub returns-in-Some : goal.returns-in-Some
returns-in-Some c = λ code p inputs well tells.
    let t = c.args.self.now in
    let there = tells_there code p inputs t well tells in
    let took = c.in-Some.ensures in
    let inner = told_as p there.frame t.state c.answer.new.state (ask_in t.asked) (in_full c.args.small_ask) c.in_ok-told.field-0 (Goes c.in-Goes.told) c.requires.asked c.in-Goes.is (c.in_ok-told.ensures p there.frame there.on_top) in
    tells_inner code p inputs t c.answer.new.state c.in-Goes.told c.take.new.self c.in-Some.taken tells c.requires.room inner.0
    (λ fr on. let h = told_as p fr t.state c.answer.new.state (ask_in t.asked) (in_full c.args.small_ask) c.in_ok-told.field-0 (Goes c.in-Goes.told) c.requires.asked c.in-Goes.is (c.in_ok-told.ensures p fr on) in h.2)
    (record { note = took.0; notes = took.1; before = took.2; after = took.3; told = took.4; asks = took.5; is = took.6 })

pub returns-in-Turns : goal.returns-in-Turns
returns-in-Turns c = λ code p inputs well tells.
    let t = c.args.self.now in
    let there = tells_there code p inputs t well tells in
    let h = told_as p there.frame t.state c.answer.new.state (ask_in t.asked) (in_full c.args.small_ask) c.in_ok-told.field-0 (Turns c.in-Turns.how c.in-Turns.part) c.requires.asked c.in-Turns.is (c.in_ok-told.ensures p there.frame there.on_top) in
    (ap (λ (s : State). let u : Retelling = record { state = s; frames = t.frames; asked = t.asked; left = t.left } in u) h.0, h.1)

pub returns-in-Ends : goal.returns-in-Ends
returns-in-Ends c = λ code p inputs well tells.
    let t = c.args.self.now in
    let there = tells_there code p inputs t well tells in
    let h = told_as p there.frame t.state c.answer.new.state (ask_in t.asked) (in_full c.args.small_ask) c.in_ok-told.field-0 (Ends c.in-Ends.result) c.requires.asked c.in-Ends.is (c.in_ok-told.ensures p there.frame there.on_top) in
    let fits : SFits w64 c.in-Ends.result = search rules in
    (ap (λ (s : State). let u : Retelling = record { state = s; frames = t.frames; asked = t.asked; left = t.left } in u) h.0, h.1 ∙ ap End (sym (to_z-of_z w64 c.in-Ends.result fits)))
