use Rattle.cilk_commands.proofs.OneReply.{one_reply}
use Rattle.cilk_commands.proofs.serving.serve.Goals as goal

pub returns-clause-served : goal.returns-clause-served
returns-clause-served g c = (c.serve_and_tell.result.told, c.serve_and_tell.ensures.served)

pub returns-clause-one : goal.returns-clause-one
returns-clause-one g c = one_reply _ _
