use Rattle.std.proofs.Common.{rules}
use Rattle.cilk_types.proofs.input.Input.count.Goals as goal

pub returns : goal.returns
returns c = search rules
