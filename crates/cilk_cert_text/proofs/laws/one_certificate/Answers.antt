use Rattle.cilk_cert_text.proofs.Texts.{one_certificate}
use Rattle.cilk_cert_text.proofs.laws.one_certificate.Goals as goal

pub returns : goal.returns
returns c = one_certificate
