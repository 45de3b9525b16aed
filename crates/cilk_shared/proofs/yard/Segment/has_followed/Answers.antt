use Rattle.std.proofs.Common.{◌-◌, ◌<◌, subst, arith}
use Rattle.cilk_tree.specs.Runs.{IsFollowed}
use Rattle.cilk_shared.specs.Values.{SegmentValue}
use Rattle.cilk_shared.proofs.Steps.{along}
use Rattle.cilk_shared.proofs.yard.Segment.has_followed.Goals as goal

pub returns : goal.returns
returns c =
    let some : c.self.inside.from < c.self.inside.upto = along (λ (g : SegmentValue). g.from < g.upto) c.self.view_is c.requires in
    subst (λ (g : SegmentValue). IsFollowed g.event_order (g.upto - 1)) c.self.view_is (c.self.invariant.1.known (c.self.inside.upto - 1) (omega (arith, some)) (omega (arith, some)))
