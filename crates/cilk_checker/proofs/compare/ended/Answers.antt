use Rattle.std.proofs.lemmas.Result.{err_from_is_err_and}
use Rattle.cilk_checker.proofs.Checked.{refused_at_end, told_true, with_holds}
use Rattle.cilk_checker.proofs.Taking.{until_found, without_memory}
use Rattle.cilk_checker.proofs.compare.ended.Goals as goal

pub returns-clause-clean : goal.returns-clause-clean
returns-clause-clean g c = λ s columns created.
    with_holds (g.S.Source.remaining c.args.source.now) (λ d h. rw c.in_default.is at (c.in_ok-refusal.ensures s d columns created h)) c.in_ok-tally.ensures.heard

pub returns-in-Some-clause-refused : goal.returns-in-Some-clause-refused
returns-in-Some-clause-refused g c = λ p inputs s columns e created.
    refused_at_end p inputs (g.S.Source.remaining c.args.source.now) s c.args.right.now.trace c.args.outcome.now c.in-Some.refusal e
    (with_holds (g.S.Source.remaining c.args.source.now) (λ d h. rw c.in-Some.is at (c.in_ok-refusal.ensures s d columns created h)) c.in_ok-tally.ensures.heard)

pub returns-in_err-tally-clause-refused : goal.returns-in_err-tally-clause-refused
returns-in_err-tally-clause-refused g c =
    let q = err_from_is_err_and c.from_residual.result c.from_residual.ensures.1 in
    rw (q.1, q.2) (λ p inputs s columns e created. told_true p inputs (g.S.Source.remaining c.args.source.now) (g.S.Source.failed c.args.source.now) (g.S.Source.failed c.heard.new.source) c.in_err-tally.field-0.0 c.in_err-tally.ensures.stop)

pub returns-in-Some-clause-part : goal.returns-in-Some-clause-part
returns-in-Some-clause-part g c = λ s columns created.
    let h = c.in_ok-tally.ensures.heard in
    until_found (g.S.Source.remaining c.args.source.now) (g.S.Source.remaining c.heard.new.source) (g.S.Source.last c.heard.new.source) s c.args.right.now.trace
    c.args.outcome.now.result h.certificate c.in-Some.refusal
    (rw c.in-Some.is at (c.in_ok-refusal.ensures s h.certificate columns created h.holds)) c.in_ok-tally.ensures.whole

pub returns-in_err-refusal-clause-part : goal.returns-in_err-refusal-clause-part
returns-in_err-refusal-clause-part g c =
    let q = err_from_is_err_and c.from_residual-in_err-refusal.result c.from_residual-in_err-refusal.ensures.1 in
    rw (q.1, q.2) (λ s columns created. without_memory (g.S.Source.remaining c.args.source.now) (g.S.Source.remaining c.heard.new.source) (g.S.Source.last c.heard.new.source)
    c.in_ok-tally.ensures.whole.1)

pub returns-in_err-tally-clause-part : goal.returns-in_err-tally-clause-part
returns-in_err-tally-clause-part g c =
    let q = err_from_is_err_and c.from_residual.result c.from_residual.ensures.1 in
    rw (q.1, q.2) (λ s columns created. c.in_err-tally.ensures.part)

pub returns-in-Some-clause-unfailed : goal.returns-in-Some-clause-unfailed
returns-in-Some-clause-unfailed g c = c.in_ok-tally.ensures.uncounted

pub returns-in_err-refusal-clause-unfailed : goal.returns-in_err-refusal-clause-unfailed
returns-in_err-refusal-clause-unfailed g c =
    let q = err_from_is_err_and c.from_residual-in_err-refusal.result c.from_residual-in_err-refusal.ensures.1 in
    rw (q.1, q.2) c.in_ok-tally.ensures.uncounted

pub returns-in_err-tally-clause-unfailed : goal.returns-in_err-tally-clause-unfailed
returns-in_err-tally-clause-unfailed g c =
    let q = err_from_is_err_and c.from_residual.result c.from_residual.ensures.1 in
    rw (q.1, q.2) c.in_err-tally.ensures.unfailed
