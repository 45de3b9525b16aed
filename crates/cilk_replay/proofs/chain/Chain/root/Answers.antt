use Rattle.std.proofs.Common.{List, [], sym, subst}
use Rattle.cilk_program.specs.declared.ask.Ask.{Ask}
use Rattle.cilk_program.specs.declared.ask.Ask.TheVariants.{Begin}
use Rattle.cilk_replay.specs.declared.replay_frame.ReplayFrame.{ReplayFrame}
use Rattle.cilk_replay.specs.Replays.{ReplayValue}
use Rattle.cilk_replay.specs.Standing.{Stand}
use Rattle.cilk_replay.proofs.Along as along
use Rattle.cilk_replay.proofs.chain.Chain.root.Goals as goal

pub invariant_of-result : goal.invariant_of-result
invariant_of-result c =
    subst (λ (u : ReplayValue). Stand u 1 c.new-2.result c.in_ok-top.top.value c.new-3.result.items) (sym c.snapshot.ensures)
    (subst (λ (k : Ask). Stand c.args.replay.now 1 k c.in_ok-top.top.value c.new-3.result.items) (sym c.new-2.ensures)
    (subst (λ (xs : List ReplayFrame). Stand c.args.replay.now 1 Begin c.in_ok-top.top.value xs) (sym c.new-3.ensures.items)
    (subst (λ (l : ReplayFrame). Stand c.args.replay.now 1 Begin l []) (sym c.in_ok-top.ensures.ok)
    (along.rooted c.args.replay.now c.laws.ensures c.in_ok-replay_frame.replay_frame c.root.result c.in_ok-replay_frame.ensures.stands c.in_ok-replay_frame.ensures.owes c.in_ok-replay_frame.ensures.took c.root.ensures.block c.root.ensures.frame c.root.ensures.before
    (c.in_ok-replay_frame.ensures.layouts, c.in_ok-replay_frame.ensures.given, c.in_ok-replay_frame.ensures.result)))))
