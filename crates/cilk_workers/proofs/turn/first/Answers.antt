use Rattle.std.proofs.Common.{◌∙◌, ap}
use Rattle.cilk_replay.specs.Asking.{IsAnswered}
use Rattle.cilk_replay.specs.Chains.{standing}
use Rattle.cilk_replay.specs.Replays.{ReplayValue}
use Rattle.cilk_frames.specs.declared.cursor.Answer.TheVariants.{Done}
use Rattle.cilk_workers.proofs.BegunTurn.{root_answered}
use Rattle.cilk_workers.proofs.Due.{on_standing}
use Rattle.cilk_workers.proofs.turn.first.Goals as goal

pub answer-requires-clause-answer : goal.answer-requires-clause-answer
answer-requires-clause-answer c =
    let y = c.args.shared.now in
    on_standing (λ s at. IsAnswered s at Done) y c.in_ok-chain.chain 1 (c.in_ok-chain.ensures ∙ ap (λ (u : ReplayValue). standing u 1) c.replay.ensures.replay) c.laws.ensures.same
    (root_answered y c.laws.ensures.replay c.laws.ensures.same c.laws.ensures.order c.laws.ensures.values)
