use Rattle.cilk_frames.proofs.Middle.{cast_fits, computed_is}
use Rattle.cilk_frames.proofs.halves.middle.Goals as goal

pub overflow_cast-result : goal.overflow_cast-result
overflow_cast-result c = cast_fits c.args.low c.args.high c.from-low.result c.from.result c.ranges.low c.ranges.high c.from-low.ensures c.from.ensures

pub returns : goal.returns
returns c = computed_is c.args.low c.args.high c.from-low.result c.from.result c.ranges.low c.ranges.high c.from-low.ensures c.from.ensures
