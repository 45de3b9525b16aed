use Rattle.std.proofs.Common.{◌∙◌, ap, ℕ, subst}
use Rattle.cilk_frames.specs.AskSlot.{in_full}
use Rattle.cilk_program.specs.declared.ask.Callee.TheVariants as callees
use Rattle.cilk_replay.specs.Sights.{IsSightOf}
use Rattle.cilk_replay.proofs.Along.{begun_by}
use Rattle.cilk_replay.proofs.replay_frame.ReplayFrame.begun.Goals as goal
use Rattle.cilk_replay.proofs.replay_frame.ReplayFrame.begun.Goals.{in-None+in_ok-cursor-in-None, in-Some-Turns+in_ok-cursor-in-Some-Turns}

pub returns-clause-stands : goal.returns-clause-stands
returns-clause-stands c = elim c.match-small_ask.branch [
  | in-None+in_ok-cursor-in-None w ↦ begun_by c.args.replay.now.code _ c.args.replay.now.inputs c.args.asked.now w.invocation.result.0 (callees.Function w.invocation.result.1.now) _ c.match-small_ask.cursor
      w.invocation.ensures c.code-code.ensures w.cursor-is w.in_ok-cursor-in-None.ensures.stands
  | in-Some-Turns+in_ok-cursor-in-Some-Turns w ↦ begun_by c.args.replay.now.code _ c.args.replay.now.inputs c.args.asked.now _ (callees.Loop w.in-Some-Turns.part) _ c.match-small_ask.cursor
      (w.in-Some-Turns.ensures ∙ ap in_full w.in-Some-Turns.field-0-is) c.code-code.ensures w.cursor-is w.in_ok-cursor-in-Some-Turns.ensures.stands
]

pub returns-clause-sight : goal.returns-clause-sight
returns-clause-sight c = λ how callee is. subst (λ (n : ℕ). IsSightOf n callee c.args.layout c.args.caller.now c.in_ok-sight.sight) c.globals.ensures (c.in_ok-sight.ensures how callee is)
