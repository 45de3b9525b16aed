use Rattle.cilk_workers.specs.Racks.{Of}
use Rattle.cilk_workers.proofs.Stolen.{stolen_there}
use Rattle.cilk_workers.proofs.find_work.oldest_at.Goals as goal

pub returns-clause-rule : goal.returns-clause-rule
returns-clause-rule g c =
    stolen_there (Of g.N.Naming.replay) c.args.pickers.now.items c.args.at _ c.oldest.new.self c.requires.at c.index_mut-picker.ensures.value c.oldest.result c.oldest.ensures.rule
