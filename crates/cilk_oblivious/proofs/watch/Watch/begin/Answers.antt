use Rattle.std.proofs.Common.{[], ap, ◌∙◌, refl, ◌∷◌, ◌++◌, false}
use Rattle.cilk_program.specs.Sources.{source}
use Rattle.cilk_oblivious.specs.Cursors.{FrameMarks}
use Rattle.cilk_oblivious.specs.declared.step.Waiting.{Waiting}
use Rattle.cilk_oblivious.specs.declared.watch.Watch.{Watch}
use Rattle.cilk_oblivious.proofs.Meeting.{callee_there, first_there, invokes, met_child}
use Rattle.cilk_oblivious.proofs.watch.Watch.begin.Goals as goal

pub returns : goal.returns
returns c = λ inputs hidden before after event whole behaves watching.
    let callee = callee_there c.args.self.now.request.asked c.requires in
    let is = invokes c.args.self.now.request.asked callee.0 callee.1 in
    let first = first_there c.args.code.now c.in_ok-cursor.cursor c.args.self.now.request.asked callee.0 callee.1 c.in_ok-cursor.ensures.first in
    let w : Watch = record { top = c.replace-parent.new.dest; below = c.push.new.self; memory = c.args.self.now.memory; request = record { asked = c.put.new.self; sent = c.renew.new.words; left = c.args.self.now.request.left }; spares = c.pop.new.self } in
    met_child (source c.args.program.now) inputs hidden c.args.code.now c.args.self.now w before after whole event is.0 callee.0 c.args.program.now.well_named behaves watching is.1
    (ap (λ (t : Waiting). t.cursor) c.replace-parent.ensures.after ∙ first)
    (ap (λ (t : Waiting). t.marks) c.replace-parent.ensures.after ∙ c.renew.ensures.marks)
    (c.in_ok-push.ensures.items ∙ ap (λ (t : Waiting). c.args.self.now.below.items ++ t ∷ []) c.replace-parent.ensures.value)
    refl c.put.ensures c.renew.ensures.words refl
