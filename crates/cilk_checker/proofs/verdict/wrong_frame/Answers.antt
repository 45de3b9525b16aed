use Rattle.cilk_cert_text.specs.declared.line.Frame.{Frame}
use Rattle.cilk_checker.proofs.Differences.{column_by}
use Rattle.cilk_checker.proofs.verdict.wrong_frame.Goals as goal

pub returns : goal.returns
returns c = λ s d columns h. column_by (λ (x : Frame). x) c.args.right.now.frames.items _ columns.frames d.frames c.args.tally.now.frames h.frames c.frame_count.result c.place.result c.place.ensures c.frame_count.ensures
