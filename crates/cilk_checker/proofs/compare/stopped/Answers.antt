use Rattle.std.proofs.lemmas.Result.{err_from_is_err_and}
use Rattle.cilk_checker.proofs.Checked.{told_true, with_holds}
use Rattle.cilk_checker.proofs.compare.stopped.Goals as goal

pub returns-clause-refused : goal.returns-clause-refused
returns-clause-refused g c = with_holds (g.S.Source.remaining c.args.source.now) (λ d h. c.found_before.ensures d h) c.in_ok-tally.ensures.heard

pub returns-in_err-tally-clause-unaccepted : goal.returns-in_err-tally-clause-unaccepted
returns-in_err-tally-clause-unaccepted g c =
    let q = err_from_is_err_and c.from_residual.result c.from_residual.ensures.1 in
    rw (q.1, q.2) (λ p inputs. told_true p inputs (g.S.Source.remaining c.args.source.now) (g.S.Source.failed c.args.source.now) (g.S.Source.failed c.heard.new.source) c.in_err-tally.field-0.0 c.in_err-tally.ensures.stop)

pub returns-in_err-tally-clause-part : goal.returns-in_err-tally-clause-part
returns-in_err-tally-clause-part g c =
    let q = err_from_is_err_and c.from_residual.result c.from_residual.ensures.1 in
    rw (q.1, q.2) c.in_err-tally.ensures.part

pub returns-in_err-tally-clause-unfailed : goal.returns-in_err-tally-clause-unfailed
returns-in_err-tally-clause-unfailed g c =
    let q = err_from_is_err_and c.from_residual.result c.from_residual.ensures.1 in
    rw (q.1, q.2) c.in_err-tally.ensures.unfailed
