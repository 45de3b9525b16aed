use Rattle.cilk_monoid.proofs.RangeLaws.{ranges_multiply}
use Rattle.cilk_monoid.proofs.range.ranges_multiply.Goals as goal

pub returns : goal.returns
returns g c = ranges_multiply g.M.Monoid.structure g.M.Monoid.IsMember g.met.M.Monoid.lawful
