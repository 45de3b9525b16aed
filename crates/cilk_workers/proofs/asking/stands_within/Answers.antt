use Rattle.cilk_workers.proofs.Numbered.{within}
use Rattle.cilk_workers.proofs.asking.stands_within.Goals as goal

pub returns : goal.returns
returns c = let k = c.args.chain.now in within k.of k.at c.ask-asked.result.now c.ask-asked.ensures
