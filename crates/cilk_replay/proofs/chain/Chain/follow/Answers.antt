use Rattle.std.proofs.Common.{◌∙◌, sym, ap}
use Rattle.cilk_replay.specs.Chains.{ChainValue}
use Rattle.cilk_replay.proofs.Along as along
use Rattle.cilk_replay.proofs.chain.Chain.follow.Goals as goal

pub go_on-requires-clause-runs : goal.go_on-requires-clause-runs
go_on-requires-clause-runs c =
    let same = ap (λ (v : ChainValue). v.of) c.rest.view_is ∙ sym c.requires in
    along.rest_runs c.rest.inside.of.value c.args.replay.now same c.rest.inside.at c.rest.inside.top.value c.rest.inside.below.items c.rest.invariant

pub go_on-requires-clause-fits : goal.go_on-requires-clause-fits
go_on-requires-clause-fits c =
    let same = ap (λ (v : ChainValue). v.of) c.rest.view_is ∙ sym c.requires in
    along.rest_fits c.rest.inside.of.value c.args.replay.now same c.rest.inside.at c.rest.inside.top.value c.rest.inside.below.items c.rest.invariant

pub invariant_of-self : goal.invariant_of-self
invariant_of-self c =
    let same = ap (λ (v : ChainValue). v.of) c.rest.view_is ∙ sym c.requires in
    along.woken c.rest.inside.of.value c.args.replay.now same c.rest.inside.at c.rest.inside.top.value c.rest.inside.below.items c.rest.invariant c.go_on.new.asked c.go_on.new.frame.value c.go_on.ensures.sight c.go_on.ensures.asks
