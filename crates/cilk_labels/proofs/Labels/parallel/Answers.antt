use Rattle.cilk_labels.proofs.Walks.{told}
use Rattle.cilk_labels.proofs.Labels.parallel.Goals as goal

pub returns : goal.returns
returns c = λ t e. told t c.args.self.now c.args.one c.args.other _ _ e c.requires.one_first c.requires.one_last c.requires.other_first c.requires.other_last c.hebrew.ensures c.hebrew-2.ensures
