use Rattle.cilk_cert_maker.proofs.OneRight.{one_right}
use Rattle.cilk_cert_maker.proofs.listing_laws.right_certificates_are_one.Goals as goal

pub returns : goal.returns
returns c = one_right
