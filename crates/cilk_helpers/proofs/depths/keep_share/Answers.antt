use Rattle.cilk_helpers.specs.Replayed.{IsReplayed}
use Rattle.cilk_helpers.proofs.Lists.{one_of, rest_of}
use Rattle.cilk_helpers.proofs.depths.keep_share.Goals as goal

pub each-preserved : goal.each-preserved
each-preserved c = record {
  rest = λ code p inputs h. rest_of (IsReplayed code p inputs) c.each.share.items c.pop.new.self.items c.in-Some.replayed c.in-Some.ensures.items (c.each.invariant.rest code p inputs h);
  kept = λ code p inputs k h. c.put.ensures code p inputs (c.each.invariant.kept code p inputs k h)
      (one_of (IsReplayed code p inputs) c.each.share.items c.pop.new.self.items c.in-Some.replayed c.in-Some.ensures.items (c.each.invariant.rest code p inputs h));
}
