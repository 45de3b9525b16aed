use Rattle.std.proofs.Common.{◌+◌, ◌∙◌, sym, ap}
use Rattle.cilk_types.specs.declared.event.Event.TheVariants.{End}
use Rattle.cilk_replay.specs.Asking.{Follows}
use Rattle.cilk_replay.specs.Chains.{ChainValue}
use Rattle.cilk_replay.proofs.Along as along
use Rattle.cilk_replay.proofs.chain.Chain.end.Goals as goal

pub go_on-requires-clause-runs : goal.go_on-requires-clause-runs
go_on-requires-clause-runs c =
    let same = ap (λ (v : ChainValue). v.of) c.self.view_is ∙ sym c.requires.replay in
    along.rest_runs c.self.inside.of.value c.args.replay.now same (c.self.inside.at + 1) c.in-Some.caller c.pop.new.self.items
    (along.ended c.self.inside.of.value c.args.replay.now same c.self.inside.at c.self.inside.asked c.self.inside.top.value c.self.inside.below.items c.self.invariant c.in-Some.caller c.pop.new.self.items (along.of_chain (λ s at. Follows s at End) c.self.inside.of.value c.self.inside.at _ c.self.view_is c.requires.end) c.in-Some.ensures.items)

pub go_on-requires-clause-fits : goal.go_on-requires-clause-fits
go_on-requires-clause-fits c =
    let same = ap (λ (v : ChainValue). v.of) c.self.view_is ∙ sym c.requires.replay in
    along.rest_fits c.self.inside.of.value c.args.replay.now same (c.self.inside.at + 1) c.in-Some.caller c.pop.new.self.items
    (along.ended c.self.inside.of.value c.args.replay.now same c.self.inside.at c.self.inside.asked c.self.inside.top.value c.self.inside.below.items c.self.invariant c.in-Some.caller c.pop.new.self.items (along.of_chain (λ s at. Follows s at End) c.self.inside.of.value c.self.inside.at _ c.self.view_is c.requires.end) c.in-Some.ensures.items)

pub invariant_of-self-2 : goal.invariant_of-self-2
invariant_of-self-2 c =
    let same = ap (λ (v : ChainValue). v.of) c.self.view_is ∙ sym c.requires.replay in
    along.woken c.self.inside.of.value c.args.replay.now same (c.self.inside.at + 1) c.in-Some.caller c.pop.new.self.items
    (along.ended c.self.inside.of.value c.args.replay.now same c.self.inside.at c.self.inside.asked c.self.inside.top.value c.self.inside.below.items c.self.invariant c.in-Some.caller c.pop.new.self.items (along.of_chain (λ s at. Follows s at End) c.self.inside.of.value c.self.inside.at _ c.self.view_is c.requires.end) c.in-Some.ensures.items)
    c.go_on.new.asked c.go_on.new.frame.value c.go_on.ensures.sight c.go_on.ensures.asks
