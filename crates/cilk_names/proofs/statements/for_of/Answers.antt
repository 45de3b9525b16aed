-- A `for` of these parts.
use Rattle.cilk_names.proofs.Blocks.{for_is}
use Rattle.cilk_names.proofs.statements.for_of.Goals as goal

pub returns : goal.returns
returns c = for_is c.args.at c.args.beginning c.args.test c.args.step c.args.body
