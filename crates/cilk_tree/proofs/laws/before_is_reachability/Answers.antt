use Rattle.cilk_tree.proofs.Tied.{reached_is_before, before_is_reached}
use Rattle.cilk_tree.proofs.laws.before_is_reachability.Goals as goal

pub returns : goal.returns
returns c = record { reached = reached_is_before; both = before_is_reached }
