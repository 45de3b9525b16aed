use Rattle.cilk_commands.specs.Serving.{Judged}
use Rattle.cilk_commands.proofs.Claims.{unjudged}
use Rattle.cilk_commands.proofs.every.settle_on_every.Goals as goal

pub returns-in-Ok-clause-reply : goal.returns-in-Ok-clause-reply
returns-in-Ok-clause-reply g c = Judged _ _ c.in-Ok.ensures.given (c.in-Ok.ensures.uncounted, c.settle_given.ensures.reply)

pub returns-in-Err-clause-reply : goal.returns-in-Err-clause-reply
returns-in-Err-clause-reply g c = unjudged _ _ _ _ _ c.of.ensures.reply c.in-Err.ensures.failure
