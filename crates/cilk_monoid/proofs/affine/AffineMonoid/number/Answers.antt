use Rattle.std.proofs.Common.{rules}
use Rattle.cilk_monoid.proofs.affine.AffineMonoid.number.Goals as goal

pub returns : goal.returns
returns c = search rules
