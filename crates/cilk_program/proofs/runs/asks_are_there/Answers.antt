use Rattle.cilk_program.proofs.Asked.{asks_there}
use Rattle.cilk_program.proofs.runs.asks_are_there.Goals as goal

pub returns : goal.returns
returns c = asks_there
