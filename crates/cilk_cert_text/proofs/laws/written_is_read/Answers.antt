use Rattle.cilk_cert_text.proofs.Wholes.{certificate_again}
use Rattle.cilk_cert_text.proofs.laws.written_is_read.Goals as goal

pub returns : goal.returns
returns c = certificate_again
