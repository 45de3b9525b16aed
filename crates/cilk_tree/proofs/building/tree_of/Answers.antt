use Rattle.std.proofs.Common.{arith, ap, ◌∙◌, length, List}
use Rattle.cilk_tree.specs.declared.tree.Node.{Node}
use Rattle.cilk_tree.proofs.Backward.{at_first_event, at_next_event, event_within, at_last}
use Rattle.cilk_tree.proofs.building.tree_of.Goals as goal

pub loop-place-init : goal.loop-place-init
loop-place-init c = at_first_event _ _ _ c.as_slice-events.ensures.events c.new-building.ensures

pub loop-place-preserved : goal.loop-place-preserved
loop-place-preserved c = at_next_event _ _ _ _ _ _ _ c.as_slice-events.ensures.events c.loop-place.invariant c.loop-place-test.true c.of.ensures c.in_ok-step.ensures

pub step-requires-clause-strands : goal.step-requires-clause-strands
step-requires-clause-strands c = let w = (event_within _ _ _ c.loop-place.invariant c.as_slice-events.ensures.within).strands in omega (arith, w)

pub step-requires-clause-events : goal.step-requires-clause-events
step-requires-clause-events c = let w = (event_within _ _ _ c.loop-place.invariant c.as_slice-events.ensures.within).events in omega (arith, w)

pub returns : goal.returns
returns c = λ s sp. c.new.ensures ∙ (c.into_vec.ensures ∙ (ap (λ b. b.nodes) c.building-2.view_is ∙ at_last _ _ _ s c.loop-place.invariant c.loop-place-test.false sp))

pub new-requires : goal.new-requires
new-requires c =
    let w = (event_within _ _ _ c.loop-place.invariant c.as_slice-events.ensures.within).nodes in
    let e = ap (λ (l : List Node). length l) (c.into_vec.ensures ∙ ap (λ b. b.nodes) c.building-2.view_is) in
    omega (arith, w, e)
