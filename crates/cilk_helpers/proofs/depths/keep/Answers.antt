use Rattle.std.proofs.Common.{subst}
use Rattle.cilk_helpers.specs.Replayed.{AreReplayed}
use Rattle.cilk_helpers.proofs.Lists.{one_of, rest_of}
use Rattle.cilk_helpers.proofs.depths.keep.Goals as goal

pub each-preserved : goal.each-preserved
each-preserved c = record {
  rest = λ code p inputs h. rest_of (AreReplayed code p inputs) c.each.round.items c.pop.new.self.items c.in-Some.share c.in-Some.ensures.items (c.each.invariant.rest code p inputs h);
  kept = λ code p inputs k h. c.keep_share.ensures code p inputs (c.each.invariant.kept code p inputs k h)
      (subst (AreReplayed code p inputs) c.in_ok-share.was
      (one_of (AreReplayed code p inputs) c.each.round.items c.pop.new.self.items c.in-Some.share c.in-Some.ensures.items (c.each.invariant.rest code p inputs h)));
}
