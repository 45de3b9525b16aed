use Rattle.std.proofs.Common.{ℤ, List, sym, subst}
use Rattle.cilk_program.specs.declared.program.Program.{Program}
use Rattle.cilk_replay.specs.Replays.{AreFramesAlong, IsReplay, replay_with}
use Rattle.cilk_plan.proofs.Making.{are_frames, is_replay}
use Rattle.cilk_plan.proofs.replay.replay.Goals as goal

pub new-requires-clause-replay : goal.new-requires-clause-replay
new-requires-clause-replay c =
    let a = c.args.plan.now.run in
    subst (λ (z : Program × List ℤ). IsReplay (replay_with c.args.yard.now z.0 c.code.result.now z.1 c.args.input.now)) (λ i. (sym c.program.ensures i, sym c.input.ensures i))
    (is_replay c.event_orders_along_have_values.ensures a c.args.plan.now.event_order c.laws.ensures.plan c.args.input.now c.inputs_are_words.ensures c.args.yard.now c.laws-2.ensures.order c.requires c.code.result.now c.code.ensures.asks)

pub new-requires-clause-frames : goal.new-requires-clause-frames
new-requires-clause-frames c =
    let a = c.args.plan.now.run in
    subst (λ (z : Program × List ℤ). AreFramesAlong (replay_with c.args.yard.now z.0 c.code.result.now z.1 c.args.input.now) c.frames.result.now) (λ i. (sym c.program.ensures i, sym c.input.ensures i))
    (are_frames c.frames_stand_at_their_numbers.ensures a c.laws.ensures.determinate c.frames.result.now c.frames.ensures c.args.yard.now c.code.result.now c.args.input.now)
