use Rattle.std.proofs.Common.{rules}
use Rattle.cilk_types.proofs.input.Input.as_slice.Goals as goal

pub returns-clause-value : goal.returns-clause-value
returns-clause-value c = search rules

pub returns-clause-few : goal.returns-clause-few
returns-clause-few c = search rules
