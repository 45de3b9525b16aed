use Rattle.cilk_scheduler.proofs.Parts.{offered, taken}
use Rattle.cilk_scheduler.proofs.laws_of_parts.continuations_are_taken.Goals as goal

pub returns-clause-offered : goal.returns-clause-offered
returns-clause-offered c = offered

pub returns-clause-taken : goal.returns-clause-taken
returns-clause-taken c = taken
