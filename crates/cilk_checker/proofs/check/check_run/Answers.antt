use Rattle.std.proofs.lemmas.Result.{err_from_is_err_and}
use Rattle.cilk_checker.proofs.Taking.{untaken}
use Rattle.cilk_checker.proofs.check.check_run.Goals as goal

pub returns-in_err-end-clause-part : goal.returns-in_err-end-clause-part
returns-in_err-end-clause-part g c =
    let q = err_from_is_err_and c.from_residual.result c.from_residual.ensures.1 in
    rw (q.1, q.2) (untaken (g.S.Source.remaining c.args.source.now) (g.S.Source.last c.args.source.now))
