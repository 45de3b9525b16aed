use Rattle.cilk_tree.proofs.AlongPlans.{follows_all}
use Rattle.cilk_tree.proofs.along.follows_where_it_departs_nowhere.Goals as goal

pub returns : goal.returns
returns c = follows_all
