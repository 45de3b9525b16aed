use Rattle.cilk_scheduler.proofs.Strands.{begins, resumes}
use Rattle.cilk_scheduler.proofs.laws.strands_are_begun.Goals as goal

pub returns-clause-begin : goal.returns-clause-begin
returns-clause-begin c = begins

pub returns-clause-resume : goal.returns-clause-resume
returns-clause-resume c = resumes
