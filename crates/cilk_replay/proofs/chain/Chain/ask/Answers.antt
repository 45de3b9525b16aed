use Rattle.std.proofs.Common.{refl, subst}
use Rattle.cilk_replay.specs.Asking.{IsNextAsk}
use Rattle.cilk_replay.specs.Chains.{ChainValue}
use Rattle.cilk_replay.proofs.Along as along
use Rattle.cilk_replay.proofs.chain.Chain.ask.Goals as goal

pub returns : goal.returns
returns c =
    subst (λ (v : ChainValue). IsNextAsk v.of v.at c.self.inside.asked) c.self.view_is
    (along.next_ask c.self.inside.of.value c.self.inside.of.value refl c.self.inside.at c.self.inside.asked c.self.inside.top.value c.self.inside.below.items c.self.invariant)
