use Rattle.std.proofs.Common.{refl}
use Rattle.cilk_cert_maker.proofs.Nested.{frames_invoked}
use Rattle.cilk_cert_maker.proofs.listing_laws.frames_are_invoked.Goals as goal

pub returns-clause-invoked : goal.returns-clause-invoked
returns-clause-invoked c = frames_invoked

pub returns-clause-worked : goal.returns-clause-worked
returns-clause-worked c = refl
