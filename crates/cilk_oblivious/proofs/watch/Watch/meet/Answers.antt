use Rattle.std.proofs.Common.{List, Bool, [], refl, ◌∷◌, ◌++◌, subst, Option}
use Rattle.std.specs.Prelude.{IfSome}
use Rattle.cilk_program.specs.Sources.{source}
use Rattle.cilk_frames.specs.AskSlot.{in_full}
use Rattle.cilk_oblivious.specs.Cursors.{hidden_of}
use Rattle.cilk_oblivious.specs.Watching.{labels_in}
use Rattle.cilk_oblivious.specs.declared.memory.MarkedAnswer.{MarkedAnswer}
use Rattle.cilk_oblivious.specs.declared.watch.Watch.{Watch}
use Rattle.cilk_oblivious.proofs.Marked.{Shown}
use Rattle.cilk_oblivious.proofs.Meeting.{is_ready, meets_if, met_inner}
use Rattle.cilk_oblivious.proofs.watch.Watch.meet.Goals as goal

pub step_openly-requires : goal.step_openly-requires
step_openly-requires c =
    let w = c.requires.watching in
    let shown = subst (λ (o : Option MarkedAnswer). IfSome o (λ x. Shown (labels_in c.args.self.now.memory) (labels_in c.answer.new.self) c.as_slice-sent.result.now c.in-Some.ask c.args.event.now x)) c.in-Some-2.is c.in_ok-found-in-Some.ensures in
    let ready = is_ready (source c.args.program.now) c.args.input.now (hidden_of c.args.hidden.now) c.args.code.now c.args.self.now w.0 (c.args.event.now ∷ w.1) w.2 (in_full c.in-Some.ask) c.in-Some-2.found.answer w.3 c.in-Some.ensures shown.0 shown.1 in
    record { runs = ready.0; fits = ready.1 }

pub returns-in_ok-goes-in-Some : goal.returns-in_ok-goes-in-Some
returns-in_ok-goes-in-Some c = λ before after whole watching.
    let shown = subst (λ (o : Option MarkedAnswer). IfSome o (λ x. Shown (labels_in c.args.self.now.memory) (labels_in c.answer.new.self) c.as_slice-sent.result.now c.in-Some.ask c.args.event.now x)) c.in-Some-2.is c.in_ok-found-in-Some.ensures in
    let w : Watch = record { top = c.step_openly.new.frame; below = c.args.self.now.below; memory = c.answer.new.self; request = c.step_openly.new.request; spares = c.args.self.now.spares } in
    let shown' = subst (λ (sent : List Bool). Shown (labels_in c.args.self.now.memory) (labels_in c.answer.new.self) sent c.in-Some.ask c.args.event.now c.in-Some-2.found) c.as_slice-sent.ensures.value shown in
    meets_if (source c.args.program.now) c.args.input.now (hidden_of c.args.hidden.now) c.args.code.now w (before ++ c.args.event.now ∷ []) after whole c.in_ok-goes-in-Some.goes c.goes_or_blocked.result c.goes_or_blocked.ensures
    (λ yes. met_inner (source c.args.program.now) c.args.input.now (hidden_of c.args.hidden.now) c.args.code.now c.args.self.now w before after whole c.args.event.now (in_full c.in-Some.ask) c.in-Some-2.found.answer c.in-Some-2.found.mark watching c.in-Some.ensures shown'.0 refl shown'.2
    (c.in_ok-goes-in-Some.ensures.steps yes) (c.in_ok-goes-in-Some.ensures.openly yes))

pub returns-in-None : goal.returns-in-None
returns-in-None c = λ before after whole watching.
    c.begin.ensures c.args.input.now (hidden_of c.args.hidden.now) before after c.args.event.now whole c.requires.behaves watching

pub returns-in-Some-End : goal.returns-in-Some-End
returns-in-Some-End c = λ before after whole watching. c.end.ensures (source c.args.program.now) before after c.args.event.now whole watching
