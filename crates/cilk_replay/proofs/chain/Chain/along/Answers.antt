use Rattle.std.proofs.Common.{◌≡◌, ℕ, List, refl, sym, ap, ◌∙◌, subst}
use Rattle.cilk_program.specs.declared.ask.Ask.{Ask}
use Rattle.cilk_replay.specs.Chains.{ChainValue}
use Rattle.cilk_replay.specs.Replays.{ReplayValue}
use Rattle.cilk_replay.specs.Standing.{Stand}
use Rattle.cilk_replay.specs.declared.replay_frame.ReplayFrame.{ReplayFrame}
use Rattle.cilk_replay.proofs.chain.Chain.along.Goals as goal

same_stand : (u v : ReplayValue) (at n : ℕ) (k : Ask) (l m : ReplayFrame) (below : List ReplayFrame) → u ≡ v → n ≡ at → m ≡ l → Stand u at k l below → Stand v n k m below
same_stand u v at n k l m below same place top S =
    subst (λ (z : ReplayFrame). Stand v n k z below) (sym top) (subst (λ (z : ℕ). Stand v z k l below) (sym place) (subst (λ (z : ReplayValue). Stand z at k l below) same S))

pub along-requires-clause-stands : goal.along-requires-clause-stands
along-requires-clause-stands g c =
    let i = c.self.inside in
    let p = c.args.piece.now in
    let same = ap (λ (v : ChainValue). v.of) c.self.view_is ∙ sym c.requires.replay in
    let place = c.requires.place ∙ sym (ap (λ (v : ChainValue). v.at) c.self.view_is) in
    (i.below.items, same_stand i.of.value c.args.replay.now i.at p.upto i.asked i.top.value c.deref_mut.result.now i.below.items same place c.deref_mut.ensures.value c.self.invariant)

pub invariant_of-self : goal.invariant_of-self
invariant_of-self g c =
    let i = c.self.inside in
    let p = c.args.piece.now in
    let q = c.along.new.piece in
    let same = ap (λ (v : ChainValue). v.of) c.self.view_is ∙ sym c.requires.replay in
    let place = c.requires.place ∙ sym (ap (λ (v : ChainValue). v.at) c.self.view_is) in
    same_stand c.args.replay.now i.of.value q.upto c.upto-self-inside.result c.along.new.asked c.along.new.self c.along.new.self i.below.items (sym same) c.upto-self-inside.ensures refl
    (c.along.ensures.stands i.below.items (same_stand i.of.value c.args.replay.now i.at p.upto i.asked i.top.value c.deref_mut.result.now i.below.items same place c.deref_mut.ensures.value c.self.invariant))
