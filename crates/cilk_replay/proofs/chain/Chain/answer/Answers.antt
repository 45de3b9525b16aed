use Rattle.std.proofs.Common.{◌∙◌, sym, ap}
use Rattle.cilk_replay.specs.Asking.{IsAnswered}
use Rattle.cilk_replay.specs.Chains.{ChainValue}
use Rattle.cilk_replay.proofs.Along as along
use Rattle.cilk_replay.proofs.chain.Chain.answer.Goals as goal

pub go_on-requires-clause-runs : goal.go_on-requires-clause-runs
go_on-requires-clause-runs c =
    let same = ap (λ (v : ChainValue). v.of) c.self.view_is ∙ sym c.requires.replay in
    along.runs c.self.inside.of.value c.args.replay.now same c.self.inside.at c.self.inside.asked c.self.inside.top.value c.self.inside.below.items c.self.invariant c.args.answer (along.of_chain (λ s at. IsAnswered s at c.args.answer) c.self.inside.of.value c.self.inside.at _ c.self.view_is c.requires.answer)

pub go_on-requires-clause-fits : goal.go_on-requires-clause-fits
go_on-requires-clause-fits c =
    let same = ap (λ (v : ChainValue). v.of) c.self.view_is ∙ sym c.requires.replay in
    along.owes_fit c.self.inside.of.value c.args.replay.now same c.self.inside.at c.self.inside.asked c.self.inside.top.value c.self.inside.below.items c.self.invariant c.args.answer (along.of_chain (λ s at. IsAnswered s at c.args.answer) c.self.inside.of.value c.self.inside.at _ c.self.view_is c.requires.answer)

pub invariant_of-self : goal.invariant_of-self
invariant_of-self c =
    let same = ap (λ (v : ChainValue). v.of) c.self.view_is ∙ sym c.requires.replay in
    along.answered c.self.inside.of.value c.args.replay.now same c.self.inside.at c.self.inside.asked c.self.inside.top.value c.self.inside.below.items c.self.invariant c.args.answer c.go_on.new.asked c.go_on.new.frame.value (along.of_chain (λ s at. IsAnswered s at c.args.answer) c.self.inside.of.value c.self.inside.at _ c.self.view_is c.requires.answer) c.go_on.ensures.sight c.go_on.ensures.asks
