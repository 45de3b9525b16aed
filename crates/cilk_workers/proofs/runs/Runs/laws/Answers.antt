use Rattle.std.proofs.Common.{subst}
use Rattle.cilk_workers.specs.Rows.{PiecesLieApart, run_of}
use Rattle.cilk_workers.proofs.Rows.{apart}
use Rattle.cilk_workers.proofs.runs.Runs.laws.Goals as goal

pub returns : goal.returns
returns c = subst PiecesLieApart c.self.view_is (apart (run_of c.self.inside.of.value c.self.inside.reducers.value) c.self.inside.row.run c.self.inside.row.waits c.self.invariant)
