use Rattle.cilk_report.proofs.Replies.{silence}
use Rattle.cilk_report.proofs.serving.follow.Goals as goal

pub returns-else-served-ne-NO_MEMORY-clause-follows : goal.returns-else-served-ne-NO_MEMORY-clause-follows
returns-else-served-ne-NO_MEMORY-clause-follows g c = silence _ _

pub returns-else-served-clause-follows : goal.returns-else-served-clause-follows
returns-else-served-clause-follows g c = silence _ _
