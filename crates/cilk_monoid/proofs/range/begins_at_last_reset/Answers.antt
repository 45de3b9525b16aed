use Rattle.cilk_monoid.proofs.RangeLaws.{begins_at_last_reset}
use Rattle.cilk_monoid.proofs.range.begins_at_last_reset.Goals as goal

pub returns : goal.returns
returns g c = begins_at_last_reset g.M.Monoid.structure g.M.Monoid.IsMember g.met.M.Monoid.lawful
