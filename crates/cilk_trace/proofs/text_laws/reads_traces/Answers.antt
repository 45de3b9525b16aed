use Rattle.cilk_trace.proofs.Forms.{reads_traces}
use Rattle.cilk_trace.proofs.text_laws.reads_traces.Goals as goal

pub returns : goal.returns
returns c = reads_traces
