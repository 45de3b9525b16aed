use Rattle.std.proofs.Common.{rules}
use Rattle.cilk_types.proofs.input.Input.new.Goals as goal

pub returns : goal.returns
returns c = search rules
