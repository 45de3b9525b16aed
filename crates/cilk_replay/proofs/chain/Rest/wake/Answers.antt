use Rattle.std.proofs.Common.{◌∙◌, sym, ap}
use Rattle.cilk_replay.specs.Chains.{ChainValue}
use Rattle.cilk_replay.proofs.Along as along
use Rattle.cilk_replay.proofs.chain.Rest.wake.Goals as goal

pub go_on-requires-clause-runs : goal.go_on-requires-clause-runs
go_on-requires-clause-runs c =
    let same = ap (λ (v : ChainValue). v.of) c.self.view_is ∙ sym c.requires in
    along.rest_runs c.self.inside.of.value c.args.replay.now same c.self.inside.at c.self.inside.top.value c.self.inside.below.items c.self.invariant

pub go_on-requires-clause-fits : goal.go_on-requires-clause-fits
go_on-requires-clause-fits c =
    let same = ap (λ (v : ChainValue). v.of) c.self.view_is ∙ sym c.requires in
    along.rest_fits c.self.inside.of.value c.args.replay.now same c.self.inside.at c.self.inside.top.value c.self.inside.below.items c.self.invariant

pub invariant_of-result : goal.invariant_of-result
invariant_of-result c =
    let same = ap (λ (v : ChainValue). v.of) c.self.view_is ∙ sym c.requires in
    along.woken c.self.inside.of.value c.args.replay.now same c.self.inside.at c.self.inside.top.value c.self.inside.below.items c.self.invariant c.go_on.new.asked c.go_on.new.frame.value c.go_on.ensures.sight c.go_on.ensures.asks
