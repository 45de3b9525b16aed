use Rattle.std.proofs.Common.{rules}
use Rattle.cilk_messages.specs.About.{commands}
use Rattle.cilk_messages.proofs.about.is_command.Goals as goal

pub returns : goal.returns
unfolding commands
returns c = search rules
