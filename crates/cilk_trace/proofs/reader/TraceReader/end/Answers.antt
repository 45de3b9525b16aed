use Rattle.cilk_trace.proofs.Headers.{cut_in_header}
use Rattle.cilk_trace.proofs.reader.TraceReader.end.Goals as goal

pub returns-in-Unknown-clause-fault : goal.returns-in-Unknown-clause-fault
returns-in-Unknown-clause-fault c =
    cut_in_header c.args.self.now c.take_as_text.new.self c.truncated.result c.in-Unknown.is (c.args.self.now.begun c.in-Unknown.is) c.take_as_text.ensures.form
    c.take_as_text.ensures.ahead c.truncated.ensures.ahead
