use Rattle.cilk_scheduler.proofs.EndParts.{go_back, handed_in, runs_left}
use Rattle.cilk_scheduler.proofs.laws_of_ends.ends_are_put_together.Goals as goal

pub returns-clause-left : goal.returns-clause-left
returns-clause-left c = runs_left

pub returns-clause-back : goal.returns-clause-back
returns-clause-back c = go_back

pub returns-clause-handed : goal.returns-clause-handed
returns-clause-handed c = handed_in
