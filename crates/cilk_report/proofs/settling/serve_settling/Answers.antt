use Rattle.std.proofs.Common.{refl, sym}
use Rattle.cilk_report.proofs.Batches.{starved, unnamed}
use Rattle.cilk_report.specs.Explained.{SettledEach}
use Rattle.cilk_messages.specs.Batches.{batch_view}
use Rattle.cilk_report.proofs.settling.serve_settling.Goals as goal

pub returns-in-Ok-Some-clause-shown : goal.returns-in-Ok-Some-clause-shown
returns-in-Ok-Some-clause-shown g c =
    SettledEach (batch_view c.in-Ok-Some.batch) (sym (rw c.in-Ok-Some.field-0-is at c.in-Ok-Some.ensures)) c.settle_each.ensures.shown

pub returns-in-Ok-None-clause-shown : goal.returns-in-Ok-None-clause-shown
returns-in-Ok-None-clause-shown g c =
    unnamed _ _ _ _ _ _ _ _ _ _ c.wrong_words.result (sym (rw c.in-Ok-None.field-0-is at c.in-Ok-None.ensures)) refl c.wrong_words.ensures c.complain.ensures

pub returns-in-Err-clause-shown : goal.returns-in-Err-clause-shown
returns-in-Err-clause-shown g c = starved _ _ _ _ _ _ _ _ _ _ refl c.complain-in-Err.ensures
