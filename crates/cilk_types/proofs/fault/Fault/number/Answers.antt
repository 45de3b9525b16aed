use Rattle.std.proofs.Common.{rules}
use Rattle.cilk_types.proofs.fault.Fault.number.Goals as goal

pub returns-in-TooManyCells : goal.returns-in-TooManyCells
returns-in-TooManyCells c = search rules
