use Rattle.cilk_tree.proofs.Passed.{gives_predecessors}
use Rattle.cilk_tree.proofs.plan_laws.pass_gives_predecessors.Goals as goal

pub returns : goal.returns
returns c = gives_predecessors
