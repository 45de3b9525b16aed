use Rattle.std.proofs.Common.{subst}
use Rattle.cilk_workers.specs.Rows.{Rows}
use Rattle.cilk_workers.specs.Boxes.{IsAwaitedIf}
use Rattle.cilk_workers.proofs.Rows.{awaited_if}
use Rattle.cilk_workers.proofs.runs.Runs.awaits.Goals as goal

pub returns : goal.returns
returns c = subst (λ (j : Rows). IsAwaitedIf c.awaits.result (let r = j.row in r.waits) c.args.key) c.self.view_is (awaited_if c.awaits.result c.self.inside.row.waits c.args.key c.awaits.ensures)
