use Rattle.std.proofs.Common.{refl}
use Rattle.cilk_report.proofs.Replies.{silence}
use Rattle.cilk_tool.proofs.Showing.{starved}
use Rattle.cilk_tool.proofs.serving.serve_flagged.Goals as goal

pub returns-in-Err-clause-shown : goal.returns-in-Err-clause-shown
returns-in-Err-clause-shown g c = (
  g.E.Write.contents c.complain.new.err,
  c.complain.result.told,
  starved _ _ _ _ _ _ _ refl c.complain.ensures,
  silence _ _,
)
