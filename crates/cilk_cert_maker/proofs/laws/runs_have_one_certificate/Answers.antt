use Rattle.cilk_cert_maker.proofs.OneCertificate.{one_certified}
use Rattle.cilk_cert_maker.proofs.laws.runs_have_one_certificate.Goals as goal

pub returns : goal.returns
returns c = one_certified
