use Rattle.std.proofs.Common.{arith}
use Rattle.std.proofs.lemmas.List.{drop_all}
use Rattle.cilk_program.proofs.given.Words.clear.Goals as goal

pub returns : goal.returns
returns c = drop_all 16 c.self.inside.items (omega (arith, c.self.told))
