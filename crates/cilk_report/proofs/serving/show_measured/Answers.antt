use Rattle.std.proofs.Common.{refl, subst, sym}
use Rattle.cilk_profile.specs.Measured.{IsMeasureText}
use Rattle.cilk_report.proofs.Measuring.{fails, unshown}
use Rattle.cilk_report.proofs.Replies.{silence}
use Rattle.cilk_report.specs.Explained.{Measured}
use Rattle.cilk_commands.specs.Replies.{Text}
use Rattle.cilk_messages.specs.Words.{texts}
use Rattle.cilk_report.proofs.serving.show_measured.Goals as goal

pub returns-in-Ok-text_of-clause-shown : goal.returns-in-Ok-text_of-clause-shown
returns-in-Ok-text_of-clause-shown g c =
    Measured _ _ c.in-Ok.totals c.as_slice.result.now c.requires.named c.in-Ok.ensures.totals
    (subst (λ (t : Text). IsMeasureText (texts c.args.words.now) c.in-Ok.totals t) (sym c.as_slice.ensures.value) c.in-Ok-text_of.ensures.text) c.tell_text.ensures

pub returns-in-Err-text_of-clause-shown : goal.returns-in-Err-text_of-clause-shown
returns-in-Err-text_of-clause-shown g c =
    unshown _ _ _ _ _ _ _ c.in-Ok.totals c.in-Err-text_of.reason _ _ _ _ _ _ _ _ c.requires.named c.in-Ok.ensures.totals c.in-Err-text_of.ensures.undrawn
    c.undrawn.ensures c.complain.ensures (silence _ _) refl

pub returns-in-Err-clause-shown : goal.returns-in-Err-clause-shown
returns-in-Err-clause-shown g c =
    fails _ _ _ _ _ _ _ c.in-Err.failure _ _ _ _ _ _ _ c.requires.named c.in-Err.ensures.failure c.complain-served.ensures c.follow.ensures.follows
    c.follow.ensures.status
