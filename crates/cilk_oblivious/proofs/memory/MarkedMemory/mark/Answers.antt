use Rattle.cilk_oblivious.proofs.Marked.{has_mark, has_none}
use Rattle.cilk_oblivious.proofs.memory.MarkedMemory.mark.Goals as goal

pub returns : goal.returns
returns c = record { cells = λ n. has_mark c.args.self.now.cells.items _ c.args.cell n c.args.mark c.in_ok-reach.ensures.there (c.in_ok-reach.ensures.same n); views = c.in_ok-reach.ensures.views }
