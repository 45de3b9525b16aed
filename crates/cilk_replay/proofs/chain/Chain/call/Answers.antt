use Rattle.std.proofs.Common.{◌≡◌, ◌≢◌, ◌+◌, List, [], ◌∷◌, ◌++◌, ◌∙◌, sym, ap, subst}
use Rattle.cilk_program.specs.declared.ask.Ask.{Ask}
use Rattle.cilk_types.specs.declared.invocation.Invocation.{Invocation}
use Rattle.cilk_program.specs.declared.ask.Ask.TheVariants.{Begin, Invoke}
use Rattle.cilk_program.specs.declared.ask.Callee.{Callee}
use Rattle.cilk_program.specs.declared.ask.Callee.TheVariants.{Root}
use Rattle.cilk_replay.specs.declared.replay_frame.ReplayFrame.{ReplayFrame}
use Rattle.cilk_replay.specs.Asking.{BeginsNext, Calls}
use Rattle.cilk_replay.specs.Chains.{ChainValue}
use Rattle.cilk_replay.specs.Replays.{IsSightIn}
use Rattle.cilk_replay.specs.Standing.{Stand}
use Rattle.cilk_replay.proofs.Along as along
use Rattle.cilk_replay.proofs.chain.Chain.call.Goals as goal

pub invariant_of-self : goal.invariant_of-self
invariant_of-self c = subst (λ (xs : List ReplayFrame). Stand c.self.inside.of.value c.self.inside.at c.self.inside.asked c.self.inside.top.value xs) (sym c.reserve.ensures.items) c.self.invariant

pub begun-requires : goal.begun-requires
begun-requires c =
    let same = ap (λ (v : ChainValue). v.of) c.self.view_is ∙ sym c.requires.replay in
    subst (λ (k : Ask). (how : Invocation) × (callee : Callee) × (callee ≢ Root) × (k ≡ Invoke how callee)) (sym c.spare-operands.ensures)
    (along.call_begins c.self.inside.of.value c.args.replay.now same c.self.inside.at c.self.inside.asked c.self.inside.top.value c.self.inside.below.items c.self.invariant (along.of_chain Calls c.self.inside.of.value c.self.inside.at _ c.self.view_is c.requires.calls))

pub invariant_of-self-in_err-child : goal.invariant_of-self-in_err-child
invariant_of-self-in_err-child c = subst (λ (k : Ask). Stand c.self.inside.of.value c.self.inside.at k c.self.inside.top.value c.reserve.new.self.items) (sym c.spare-operands.ensures)
    (subst (λ (xs : List ReplayFrame). Stand c.self.inside.of.value c.self.inside.at c.self.inside.asked c.self.inside.top.value xs) (sym c.reserve.ensures.items) c.self.invariant)

pub invariant_of-self-2 : goal.invariant_of-self-2
invariant_of-self-2 c =
    let same = ap (λ (v : ChainValue). v.of) c.self.view_is ∙ sym c.requires.replay in
    let items = c.push_reserved.ensures.items ∙ ap (λ (xs : List ReplayFrame). xs ++ c.replace-caller.result ∷ []) c.reserve.ensures.items ∙ ap (λ (l : ReplayFrame). c.self.inside.below.items ++ l ∷ []) (c.replace-caller.ensures.value ∙ c.deref_mut.ensures.value) in
    subst (λ (l : ReplayFrame). Stand c.self.inside.of.value (c.self.inside.at + 1) c.put.new.self l c.push_reserved.new.self.items) (sym c.replace-caller.ensures.after)
    (subst (λ (k : Ask). Stand c.self.inside.of.value (c.self.inside.at + 1) k c.in_ok-child.child c.push_reserved.new.self.items) (sym c.put.ensures)
    (subst (λ (xs : List ReplayFrame). Stand c.self.inside.of.value (c.self.inside.at + 1) Begin c.in_ok-child.child xs) (sym items)
    (along.called c.self.inside.of.value c.args.replay.now same c.self.inside.at c.self.inside.asked c.self.inside.top.value c.self.inside.below.items c.self.invariant c.in_ok-child.child (along.of_chain Calls c.self.inside.of.value c.self.inside.at _ c.self.view_is c.requires.calls)
    (record {
      number = c.args.frame;
      layout = c.child-layout.result;
      begins = along.of_chain (λ s at. BeginsNext s at c.args.frame) c.self.inside.of.value c.self.inside.at _ c.self.view_is c.requires.begins;
      lies = c.child-layout.ensures.block;
      frame = c.child-layout.ensures.frame;
      before = c.child-layout.ensures.before;
      begun = λ p how callee is. c.in_ok-child.ensures.stands p how callee (c.spare-operands.ensures ∙ is);
      owes = c.in_ok-child.ensures.owes;
      took = c.in_ok-child.ensures.took;
      sight = subst (λ (l : ReplayFrame). (how : Invocation) (callee : Callee) → c.self.inside.asked ≡ Invoke how callee → IsSightIn c.args.replay.now callee c.child-layout.result l.sight c.in_ok-child.child.sight) c.deref.ensures (λ how callee is. c.in_ok-child.ensures.sight how callee (c.spare-operands.ensures ∙ is));
    }))))
