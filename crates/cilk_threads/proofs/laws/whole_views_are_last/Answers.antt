use Rattle.cilk_threads.proofs.Lasting.{whole_last}
use Rattle.cilk_threads.proofs.laws.whole_views_are_last.Goals as goal

pub returns : goal.returns
returns c = whole_last
