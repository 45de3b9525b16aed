use Rattle.std.proofs.Common.{◌≡◌, [], refl, ◌∷◌, ◌++◌}
use Rattle.cilk_oblivious.specs.Cursors.{hidden_of}
use Rattle.cilk_oblivious.specs.declared.watch.Watch.{Watch}
use Rattle.cilk_oblivious.proofs.Meeting.{goes_back, meets_if, met_end, met_return}
use Rattle.cilk_oblivious.proofs.watch.Watch.end.Goals as goal

pub returns-in_default : goal.returns-in_default
returns-in_default c = λ p before after event whole watching.
    let none : c.args.self.now.below.items ≡ [] = c.in_default.ensures in
    met_end p c.args.input.now (hidden_of c.args.hidden.now) c.args.code.now c.args.self.now before after whole event c.requires.ends.0 watching c.requires.ends.1 none

pub returns : goal.returns
returns c = λ p before after event whole watching.
    let w : Watch = record { top = c.step_openly.new.frame; below = c.pop_waiting.new.below; memory = c.args.self.now.memory; request = c.step_openly.new.request; spares = c.keep-2.new.spares } in
    let back = goes_back p c.args.input.now (hidden_of c.args.hidden.now) c.args.code.now c.args.self.now c.pop_waiting.new.below.items c.in-Some.frame before (event ∷ after) whole watching c.in-Some.ensures in
    meets_if p c.args.input.now (hidden_of c.args.hidden.now) c.args.code.now w (before ++ event ∷ []) after whole c.in_ok-goes.goes c.goes_or_blocked.result c.goes_or_blocked.ensures
    (λ yes. met_return p c.args.input.now (hidden_of c.args.hidden.now) c.args.code.now c.args.self.now w c.in-Some.frame before after whole event c.requires.ends.0 back c.requires.ends.1 refl (c.in_ok-goes.ensures.steps yes) (c.in_ok-goes.ensures.openly yes))
