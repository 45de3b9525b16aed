use Rattle.cilk_commands.proofs.OneReply.{one_reply}
use Rattle.cilk_commands.proofs.laws.reply_is_one.Goals as goal

pub returns : goal.returns
returns c = λ w line. one_reply w line
