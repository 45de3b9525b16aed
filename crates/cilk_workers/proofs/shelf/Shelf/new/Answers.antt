use Rattle.std.proofs.Common.{[]}
use Rattle.cilk_workers.proofs.shelf.Shelf.new.Goals as goal

pub returns-clause-history : goal.returns-clause-history
returns-clause-history c = ([], (c.new.ensures.items, c.new-2.ensures.items))
