use Rattle.std.proofs.Common.{length}
use Rattle.cilk_checker.proofs.Differences.{found_by}
use Rattle.cilk_checker.proofs.verdict.wrong_event.Goals as goal

pub returns : goal.returns
returns c = λ d h. found_by _ d.events (length c.args.right.now.trace) c.args.tally.now.events h.events c.len.result c.place.result c.place.ensures c.len.ensures.events
