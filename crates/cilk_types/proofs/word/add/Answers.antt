use Rattle.std.proofs.Common.{arith}
use Rattle.std.proofs.lemmas.Int.{wraps}
use Rattle.cilk_types.proofs.word.add.Goals as goal

pub returns : goal.returns
returns c = grind (arith, wraps)
