use Rattle.std.proofs.Common.{refl}
use Rattle.cilk_trace.proofs.Judgements.{judging_first}
use Rattle.cilk_trace.proofs.judge.Judge.new.Goals as goal

pub returns : goal.returns
returns c = judging_first _ c.in_ok-new.ensures refl refl c.new-2.ensures
