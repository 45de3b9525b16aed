use Rattle.cilk_scheduler.proofs.ReducerEvents.{creates, prints, reads_value, sets, updates}
use Rattle.cilk_scheduler.proofs.acting.reducers_are_touched.Goals as goal

pub returns-clause-create : goal.returns-clause-create
returns-clause-create c = creates

pub returns-clause-update : goal.returns-clause-update
returns-clause-update c = updates

pub returns-clause-set : goal.returns-clause-set
returns-clause-set c = sets

pub returns-clause-value : goal.returns-clause-value
returns-clause-value c = reads_value

pub returns-clause-print : goal.returns-clause-print
returns-clause-print c = prints
