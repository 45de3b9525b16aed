use Rattle.std.proofs.Common.{rules}
use Rattle.cilk_messages.proofs.words.empty.Goals as goal

pub returns : goal.returns
returns c = search rules
