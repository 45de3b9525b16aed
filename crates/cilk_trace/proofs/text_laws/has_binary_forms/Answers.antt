use Rattle.cilk_trace.proofs.Encoded.{has_binary_forms}
use Rattle.cilk_trace.proofs.text_laws.has_binary_forms.Goals as goal

pub returns : goal.returns
returns c = has_binary_forms
