use Rattle.cilk_tree.specs.Tree.{tree}
use Rattle.cilk_cert_maker.proofs.make.labels.Goals as goal

pub returns-clause-labels : goal.returns-clause-labels
returns-clause-labels c = λ s spells. c.in_ok-labels.ensures (tree s) (c.in_ok-tree.ensures s spells)

pub returns-clause-classes : goal.returns-clause-classes
returns-clause-classes c = λ s spells. c.in_ok-classes.ensures (tree s) (c.in_ok-tree.ensures s spells)
