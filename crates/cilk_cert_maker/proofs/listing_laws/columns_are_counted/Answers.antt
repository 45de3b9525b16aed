use Rattle.cilk_cert_maker.proofs.Lengths.{columns_counted}
use Rattle.cilk_cert_maker.proofs.listing_laws.columns_are_counted.Goals as goal

pub returns : goal.returns
returns c = columns_counted
