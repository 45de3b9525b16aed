use Rattle.cilk_tree.proofs.Sources.{sources_last}
use Rattle.cilk_tree.proofs.laws.sources_are_last_writes.Goals as goal

pub returns : goal.returns
returns c = sources_last
