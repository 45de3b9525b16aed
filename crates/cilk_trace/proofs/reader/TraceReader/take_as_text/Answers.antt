use Rattle.cilk_trace.proofs.Headers.{no_lf_header}
use Rattle.cilk_trace.proofs.reader.TraceReader.take_as_text.Goals as goal

pub after-self-requires-clause-no_lf : goal.after-self-requires-clause-no_lf
after-self-requires-clause-no_lf c = no_lf_header c.args.self.now.matched (c.args.self.now.begun c.requires)
