use Rattle.cilk_trace.proofs.Leb128.{reads_numbers}
use Rattle.cilk_trace.proofs.text_laws.reads_numbers.Goals as goal

pub returns : goal.returns
returns c = reads_numbers
