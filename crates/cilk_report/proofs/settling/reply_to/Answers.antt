use Rattle.cilk_report.proofs.Batches.{answered}
use Rattle.cilk_report.proofs.settling.reply_to.Goals as goal

pub returns-else-batch-clause-reply : goal.returns-else-batch-clause-reply
returns-else-batch-clause-reply g c = answered _ _ _ c.settle.result _ c.of.ensures.reply c.settle.ensures.answer c.settle.ensures.failure
