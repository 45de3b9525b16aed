use Rattle.std.proofs.Common.{◌≡◌, Some, sym, ap, ◌∙◌, subst}
use Rattle.cilk_tree.specs.Kinds.{kind_of_event}
use Rattle.cilk_tree.specs.Word.{event}
use Rattle.cilk_replay.specs.Chains.{ChainValue}
use Rattle.cilk_replay.specs.Making.{Compares}
use Rattle.cilk_replay.specs.Replays.{ReplayValue}
use Rattle.cilk_replay.specs.Sorts.{Says}
use Rattle.cilk_replay.specs.declared.replay_frame.ReplayFrame.{ReplayFrame}
use Rattle.cilk_replay.proofs.Along as along
use Rattle.cilk_replay.proofs.chain.Chain.matches_plan.Goals as goal

pub returns : goal.returns
returns c =
    let i = c.self.inside in
    let same = ap (λ (v : ChainValue). v.of) c.self.view_is ∙ sym c.requires.replay in
    subst (λ (z : ChainValue). Says (along.event_order_of z.of) z.at c.args.kind c.compared.result) c.self.view_is
    (subst (λ (z : ReplayValue). Compares z c.deref-replay_frame.result.now.sight i.asked c.args.kind c.compared.result) (sym same) c.compared.ensures i.at i.top.value i.below.items
    (ap (λ (l : ReplayFrame). l.sight) (sym c.deref-replay_frame.ensures)) c.self.invariant
    (along.of_chain (λ s at. kind_of_event (event s at) ≡ Some c.args.kind) i.of.value i.at c.args.self.now c.self.view_is c.requires.kind))
