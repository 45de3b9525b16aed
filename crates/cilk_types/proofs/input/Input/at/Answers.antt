use Rattle.std.proofs.Common.{rules}
use Rattle.cilk_types.proofs.input.Input.at.Goals as goal

pub returns-in-Ok : goal.returns-in-Ok
returns-in-Ok c = search rules
