use Rattle.std.proofs.Common.{refl}
use Rattle.cilk_commands.specs.Replies.{NoMemory}
use Rattle.cilk_commands.specs.Serving.{ProgramUnread, Unjudged}
use Rattle.cilk_report.proofs.Batches.{claimed, settled}
use Rattle.cilk_report.specs.Settling.{OutOfMemory}
use Rattle.cilk_report.proofs.settling.settle_one.Goals as goal

pub returns-then-failures-eq18446744073709551615-clause-ends : goal.returns-then-failures-eq18446744073709551615-clause-ends
returns-then-failures-eq18446744073709551615-clause-ends g c = λ _.
    OutOfMemory NoMemory c.starved.ensures.told.0 (Unjudged (ProgramUnread refl)) c.starved.ensures.status refl c.starved.ensures.told.1

pub returns-clause-goes_on : goal.returns-clause-goes_on
returns-clause-goes_on g c = λ on.
    c.show_reply.ensures.goes_on on _ _
    (settled _ _ _ _ _ _ _ _ c.keep.ensures.failures c.keep.ensures.same _ c.reply_to-reply.ensures.reply)
    (claimed _ _ _ _ _ _ _ _ c.keep.ensures.failures c.keep.ensures.same _ _ _ c.reply_to-reply.ensures.claim)

pub returns-clause-ends : goal.returns-clause-ends
returns-clause-ends g c = λ off.
    c.show_reply.ensures.ends off _ _
    (settled _ _ _ _ _ _ _ _ c.keep.ensures.failures c.keep.ensures.same _ c.reply_to-reply.ensures.reply)
    (claimed _ _ _ _ _ _ _ _ c.keep.ensures.failures c.keep.ensures.same _ _ _ c.reply_to-reply.ensures.claim)
