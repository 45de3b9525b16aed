use Rattle.std.proofs.Common.{◌≤◌, sym, subst}
use Rattle.cilk_workers.specs.Rows.{Row, Rows, RunValue, MetRows, behind, end_in, rows, run_of}
use Rattle.cilk_workers.proofs.Rows.{met_push}
use Rattle.cilk_workers.proofs.runs.Runs.wait.Goals as goal

pub invariant_of-self-2 : goal.invariant_of-self-2
invariant_of-self-2 c =
    let y : RunValue = run_of c.self.inside.of.value c.self.inside.reducers.value in
    let r : Row = c.self.inside.row in
    let low = subst (λ (j : Rows). end_in j ≤ c.args.goes_on) (sym c.self.view_is) c.requires in
    subst (λ (r : Row). MetRows (rows y r)) (sym c.in_ok-wait.ensures.ok) (c.self.invariant.0, met_push y (behind r.run 0) r.waits c.args.key c.args.goes_on low c.self.invariant.1)
