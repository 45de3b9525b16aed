use Rattle.std.proofs.Common.{◌≡◌, rules}
use Rattle.cilk_workers.specs.Boxes.{stolen_at}
use Rattle.cilk_workers.proofs.Boxes.{box_of}
use Rattle.cilk_workers.proofs.join.JoinBox.record_steal.Goals as goal

pub returns-clause-ok : goal.returns-clause-ok
returns-clause-ok c =
    let i = c.if-self-key.self-inside in
    let recorded : box_of i.runs i.replay.value i.sync c.args.key i.arrived i.gone i.chain ≡ stolen_at c.args.self.now c.args.key c.args.goes_on = search rules in
    recorded
