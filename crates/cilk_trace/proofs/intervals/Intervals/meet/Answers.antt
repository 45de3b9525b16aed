use Rattle.cilk_trace.proofs.IntervalStacks.{stack_more}
use Rattle.cilk_trace.proofs.Results.{if_ok}
use Rattle.cilk_trace.proofs.intervals.Intervals.meet.Goals as goal

pub returns : goal.returns
returns c = if_ok c.take.result c.take.ensures (λ x is done n e. stack_more done c.args.line.now c.args.at c.args.self.now c.take.new.self is n e)
