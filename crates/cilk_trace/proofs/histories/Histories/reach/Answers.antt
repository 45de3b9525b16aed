use Rattle.std.proofs.Common.{◌∙◌}
use Rattle.cilk_trace.proofs.Pages.{page_pushed}
use Rattle.cilk_trace.proofs.histories.Histories.reach.Goals as goal

pub grow-preserved : goal.grow-preserved
grow-preserved c = λ x. page_pushed _ _ _ c.in_ok-push.ensures.items c.new.ensures x ∙ c.grow.invariant x
