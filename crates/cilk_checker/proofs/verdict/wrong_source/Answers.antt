use Rattle.std.proofs.Common.{length}
use Rattle.cilk_checker.proofs.Differences.{found_by, none_differs}
use Rattle.cilk_checker.proofs.verdict.wrong_source.Goals as goal

pub returns : goal.returns
returns c = λ d nowhere h.
    found_by _ d.events (length c.args.right.now.trace) c.args.tally.now.sources (h.sources (none_differs _ d.events (length c.args.right.now.trace) c.args.tally.now.events h.events nowhere))
    c.len.result c.place.result c.place.ensures c.len.ensures.events
