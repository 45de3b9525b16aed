use Rattle.cilk_cert_text.proofs.Bounds.{within_limit}
use Rattle.cilk_cert_text.proofs.laws.within_limit.Goals as goal

pub returns : goal.returns
returns c = within_limit
