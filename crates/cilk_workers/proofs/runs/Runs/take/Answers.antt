use Rattle.std.proofs.Common.{sym, subst, arith}
use Rattle.cilk_workers.specs.Rows.{Row, RunValue, MetRows, behind, rows, run_of}
use Rattle.cilk_workers.proofs.Rows.{met_lower}
use Rattle.cilk_workers.proofs.runs.Runs.take.Goals as goal

pub invariant_of-self : goal.invariant_of-self
invariant_of-self c =
    let y : RunValue = run_of c.self.inside.of.value c.self.inside.reducers.value in
    let r : Row = c.self.inside.row in
    subst (λ (r : Row). MetRows (rows y r)) (sym c.take.ensures.new) (tt, met_lower y (behind r.run 0) 0 r.waits (omega arith) c.self.invariant.1)
