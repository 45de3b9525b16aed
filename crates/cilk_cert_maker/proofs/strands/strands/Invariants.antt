use Rattle.cilk_cert_maker.proofs.Numbered.{Numbers}
use Rattle.cilk_cert_maker.proofs.strands.strands.Given as goal

abbrev pub invariant-loop-index : goal.invariant-loop-index
invariant-loop-index l = Numbers l.owners l.labels l.classes l.index l.strands.items
