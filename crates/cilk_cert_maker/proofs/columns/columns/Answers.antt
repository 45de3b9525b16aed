use Rattle.std.proofs.Common.{ap, ◌∙◌}
use Rattle.cilk_cert_maker.specs.Walk.{Walked}
use Rattle.cilk_cert_maker.proofs.Passing.{stands_first, stands_next, stands_last, room}
use Rattle.cilk_cert_maker.proofs.columns.columns.Goals as goal

pub loop-event-init : goal.loop-event-init
loop-event-init c = stands_first _ _ c.in_ok-walk.ensures

pub loop-event-preserved : goal.loop-event-preserved
loop-event-preserved c = stands_next _ _ _ _ _ _ c.loop-event.invariant c.loop-event-test.true c.of.ensures c.in_ok-step.ensures

pub step-requires-clause-made : goal.step-requires-clause-made
step-requires-clause-made c = (room _ _ _ _ c.loop-event.invariant c.loop-event-test.true c.as_slice-event-items.ensures.events c.as_slice-event-items.ensures.within).0

pub step-requires-clause-frames : goal.step-requires-clause-frames
step-requires-clause-frames c = (room _ _ _ _ c.loop-event.invariant c.loop-event-test.true c.as_slice-event-items.ensures.events c.as_slice-event-items.ensures.within).1

pub returns-clause-frames : goal.returns-clause-frames
returns-clause-frames c = λ s spells.
    let last = stands_last _ _ _ _ c.loop-event.invariant c.loop-event-test.false c.as_slice-event-items.ensures.events s spells in
    c.into_columns-frames.ensures.frames ∙ ap (λ (w : Walked). w.frames) last

pub returns-clause-owners : goal.returns-clause-owners
returns-clause-owners c = λ s spells.
    let last = stands_last _ _ _ _ c.loop-event.invariant c.loop-event-test.false c.as_slice-event-items.ensures.events s spells in
    c.into_columns-frames.ensures.owners ∙ ap (λ (w : Walked). w.owners) last
