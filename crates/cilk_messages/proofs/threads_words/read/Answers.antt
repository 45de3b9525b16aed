use Rattle.std.proofs.Common.{◌∙◌, sym}
use Rattle.cilk_messages.proofs.ThreadsEntered.{free_shape, no_order, order_found, order_lost, order_of_matches, order_of_refused}
use Rattle.cilk_messages.proofs.threads_words.read.Goals as goal

pub returns-in-Some-clause-order : goal.returns-in-Some-clause-order
returns-in-Some-clause-order c =
    let asked = order_of_matches c.in_ok-command.field-0 c.args.words.now c.in-Ok.matches c.in_ok-command.ensures.0 (c.in-Ok.ensures.kinds (free_shape _ c.in_ok-command.ensures.0)) c.in-Ok.ensures.matches in
    order_found c.order_of.result _ _ (asked ∙ sym c.order_of.ensures) c.in-Some.is

pub returns-in-Ok-clause-fault : goal.returns-in-Ok-clause-fault
returns-in-Ok-clause-fault c =
    let asked = order_of_matches c.in_ok-command.field-0 c.args.words.now c.in-Ok.matches c.in_ok-command.ensures.0 (c.in-Ok.ensures.kinds (free_shape _ c.in_ok-command.ensures.0)) c.in-Ok.ensures.matches in
    no_order _ c.no_order.result (order_lost c.order_of.result _ (asked ∙ sym c.order_of.ensures) c.in-None.is)

pub returns-clause-fault : goal.returns-clause-fault
returns-clause-fault c =
    order_of_refused c.in_ok-command.field-0 c.args.words.now c.in-Err.error c.in_ok-command.ensures.0 (c.in-Err.ensures.kinds (free_shape _ c.in_ok-command.ensures.0)) c.refusal.result c.refusal.ensures
