use Rattle.cilk_commands.proofs.Replying.{ends, fails}
use Rattle.cilk_commands.proofs.serving.serve_and_tell.Goals as goal

pub returns-in-Ok : goal.returns-in-Ok
returns-in-Ok g c = record { served = ends _ _ _ _ _ _ _ _ _ c.in-Ok.ensures.answer c.show.ensures; untouched = c.answer.ensures.untouched; most = c.answer.ensures.most; few = c.answer.ensures.few }

pub returns-in-Err : goal.returns-in-Err
returns-in-Err g c = record { served = fails _ _ c.in-Err.failure _ _ _ _ _ c.in-Err.ensures.failure c.complain.ensures; untouched = c.answer.ensures.untouched; most = c.answer.ensures.most; few = c.answer.ensures.few }
