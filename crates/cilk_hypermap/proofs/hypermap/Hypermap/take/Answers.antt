use Rattle.std.proofs.Common.{rules}
use Rattle.cilk_hypermap.proofs.hypermap.Hypermap.take.Goals as goal

pub returns-in-Greatest-clause-value : goal.returns-in-Greatest-clause-value
returns-in-Greatest-clause-value c = search rules

pub returns-in-Greatest-clause-views : goal.returns-in-Greatest-clause-views
returns-in-Greatest-clause-views c = search rules
