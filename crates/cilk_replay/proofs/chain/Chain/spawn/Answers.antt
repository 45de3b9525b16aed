use Rattle.std.proofs.Common.{◌≡◌, ◌≢◌, ◌+◌, Box, Global, List, ◌∙◌, sym, ap, subst}
use Rattle.cilk_program.specs.declared.ask.Ask.{Ask}
use Rattle.cilk_types.specs.declared.invocation.Invocation.{Invocation}
use Rattle.cilk_program.specs.declared.ask.Ask.TheVariants.{Begin, Invoke}
use Rattle.cilk_program.specs.declared.ask.Callee.{Callee}
use Rattle.cilk_program.specs.declared.ask.Callee.TheVariants.{Root}
use Rattle.cilk_replay.specs.declared.replay_frame.ReplayFrame.{ReplayFrame}
use Rattle.cilk_replay.specs.Asking.{BeginsNext, Spawns}
use Rattle.cilk_replay.specs.Chains.{ChainValue}
use Rattle.cilk_replay.specs.Replays.{ReplayValue, IsSightIn}
use Rattle.cilk_replay.specs.Standing.{Rest, Stand}
use Rattle.cilk_replay.proofs.Along as along
use Rattle.cilk_replay.proofs.chain.Chain.spawn.Goals as goal

pub begun-requires : goal.begun-requires
begun-requires c =
    let same = ap (λ (v : ChainValue). v.of) c.self.view_is ∙ sym c.requires.replay in
    subst (λ (k : Ask). (how : Invocation) × (callee : Callee) × (callee ≢ Root) × (k ≡ Invoke how callee)) (sym c.spare-operands.ensures)
    (along.spawn_begins c.self.inside.of.value c.args.replay.now same c.self.inside.at c.self.inside.asked c.self.inside.top.value c.self.inside.below.items c.self.invariant c.args.next (along.of_chain (λ s at. Spawns s at c.args.next) c.self.inside.of.value c.self.inside.at _ c.self.view_is c.requires.spawns))

pub invariant_of-self : goal.invariant_of-self
invariant_of-self c = subst (λ (k : Ask). Stand c.self.inside.of.value c.self.inside.at k c.self.inside.top.value c.self.inside.below.items) (sym c.spare-operands.ensures) c.self.invariant

pub invariant_of-self-in_err-child : goal.invariant_of-self-in_err-child
invariant_of-self-in_err-child c = subst (λ (k : Ask). Stand c.self.inside.of.value c.self.inside.at k c.self.inside.top.value c.self.inside.below.items) (sym c.spare-operands.ensures) c.self.invariant

pub invariant_of-self-2 : goal.invariant_of-self-2
invariant_of-self-2 c =
    let same = ap (λ (v : ChainValue). v.of) c.self.view_is ∙ sym c.requires.replay in
    subst (λ (l : ReplayFrame). Stand c.self.inside.of.value (c.self.inside.at + 1) c.put.new.self l c.replace-2.new.dest.items) (sym (ap (λ (b : Box ReplayFrame Global). b.value) c.replace.ensures.after ∙ c.in_ok-child.ensures.ok))
    (subst (λ (k : Ask). Stand c.self.inside.of.value (c.self.inside.at + 1) k c.in_ok-replay_frame.replay_frame c.replace-2.new.dest.items) (sym c.put.ensures)
    (subst (λ (xs : List ReplayFrame). Stand c.self.inside.of.value (c.self.inside.at + 1) Begin c.in_ok-replay_frame.replay_frame xs) (sym (ap (λ v. v.items) c.replace-2.ensures.after ∙ c.new-2.ensures.items))
    (along.spawned_child c.self.inside.of.value c.args.replay.now same c.self.inside.at c.self.inside.asked c.self.inside.top.value c.self.inside.below.items c.self.invariant c.in_ok-replay_frame.replay_frame c.args.next (along.of_chain (λ s at. Spawns s at c.args.next) c.self.inside.of.value c.self.inside.at _ c.self.view_is c.requires.spawns)
    (record {
      number = c.args.frame;
      layout = c.child-layout.result;
      begins = along.of_chain (λ s at. BeginsNext s at c.args.frame) c.self.inside.of.value c.self.inside.at _ c.self.view_is c.requires.begins;
      lies = c.child-layout.ensures.block;
      frame = c.child-layout.ensures.frame;
      before = c.child-layout.ensures.before;
      begun = λ p how callee is. c.in_ok-replay_frame.ensures.stands p how callee (c.spare-operands.ensures ∙ is);
      owes = c.in_ok-replay_frame.ensures.owes;
      took = c.in_ok-replay_frame.ensures.took;
      sight = subst (λ (l : ReplayFrame). (how : Invocation) (callee : Callee) → c.self.inside.asked ≡ Invoke how callee → IsSightIn c.args.replay.now callee c.child-layout.result l.sight c.in_ok-replay_frame.replay_frame.sight) c.deref.ensures (λ how callee is. c.in_ok-replay_frame.ensures.sight how callee (c.spare-operands.ensures ∙ is));
    }))))

pub invariant_of-rest : goal.invariant_of-rest
invariant_of-rest c =
    let same = ap (λ (v : ChainValue). v.of) c.self.view_is ∙ sym c.requires.replay in
    subst (λ (l : ReplayFrame). Rest c.snapshot.result.value c.args.next l c.replace-2.result.items) (sym (ap (λ (b : Box ReplayFrame Global). b.value) c.replace.ensures.value))
    (subst (λ (xs : List ReplayFrame). Rest c.snapshot.result.value c.args.next c.self.inside.top.value xs) (sym (ap (λ v. v.items) c.replace-2.ensures.value))
    (subst (λ (u : ReplayValue). Rest u c.args.next c.self.inside.top.value c.self.inside.below.items) (same ∙ sym c.snapshot.ensures)
    (along.spawned_parent c.self.inside.of.value c.args.replay.now same c.self.inside.at c.self.inside.asked c.self.inside.top.value c.self.inside.below.items c.self.invariant c.in_ok-replay_frame.replay_frame c.args.next (along.of_chain (λ s at. Spawns s at c.args.next) c.self.inside.of.value c.self.inside.at _ c.self.view_is c.requires.spawns)
    (record {
      number = c.args.frame;
      layout = c.child-layout.result;
      begins = along.of_chain (λ s at. BeginsNext s at c.args.frame) c.self.inside.of.value c.self.inside.at _ c.self.view_is c.requires.begins;
      lies = c.child-layout.ensures.block;
      frame = c.child-layout.ensures.frame;
      before = c.child-layout.ensures.before;
      begun = λ p how callee is. c.in_ok-replay_frame.ensures.stands p how callee (c.spare-operands.ensures ∙ is);
      owes = c.in_ok-replay_frame.ensures.owes;
      took = c.in_ok-replay_frame.ensures.took;
      sight = subst (λ (l : ReplayFrame). (how : Invocation) (callee : Callee) → c.self.inside.asked ≡ Invoke how callee → IsSightIn c.args.replay.now callee c.child-layout.result l.sight c.in_ok-replay_frame.replay_frame.sight) c.deref.ensures (λ how callee is. c.in_ok-replay_frame.ensures.sight how callee (c.spare-operands.ensures ∙ is));
    }))))
