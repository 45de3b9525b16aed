-- A tree resolves if and only if it has no fault.
use Rattle.cilk_names.proofs.Verdicts.{resolves_right, right_resolves}
use Rattle.cilk_names.proofs.resolution.resolves_where_right.Goals as goal

pub returns : goal.returns
returns c = λ t. (resolves_right t, right_resolves t)
