use Rattle.cilk_determinacy.specs.Runs.{Output}
use Rattle.cilk_determinacy.proofs.Stretched.{are_stretches}
use Rattle.cilk_determinacy.proofs.stretches.pieces_cover_stretches.Goals as goal

pub returns : goal.returns
returns types c = λ M C w t opening s ok. are_stretches M C w t opening s Output ok
