use Rattle.std.proofs.Common.{ap, refl, ◌∙◌}
use Rattle.cilk_report.proofs.Measuring.{starved}
use Rattle.cilk_report.proofs.Replies.{silence}
use Rattle.cilk_messages.specs.Words.{texts}
use Rattle.cilk_report.proofs.serving.serve_measure.Goals as goal

pub serve_run-requires-clause-plain : goal.serve_run-requires-clause-plain
serve_run-requires-clause-plain g c = ap texts c.as_slice.ensures.value ∙ c.in-Ok.ensures

pub returns-in-Err-clause-shown : goal.returns-in-Err-clause-shown
returns-in-Err-clause-shown g c = starved _ _ _ _ _ _ _ _ _ _ _ _ refl c.complain.ensures (silence _ _) refl
