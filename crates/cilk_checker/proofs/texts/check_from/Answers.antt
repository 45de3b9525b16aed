use Rattle.std.proofs.Common.{refl}
use Rattle.std.proofs.lemmas.Result.{IfErr-weaker, err_from_is_err_and}
use Rattle.cilk_program.specs.Sources.{source}
use Rattle.cilk_checker.specs.Judging.{meant}
use Rattle.cilk_checker.proofs.Judged.{certified_kept, not_of_texts, texts_kept, true_answer}
use Rattle.cilk_checker.proofs.OneVerdict.{one_by, only_by}
use Rattle.cilk_checker.proofs.Taking.{until_judged}
use Rattle.cilk_checker.proofs.texts.check_from.Goals as goal

pub returns-in_err-meant-clause-unaccepted : goal.returns-in_err-meant-clause-unaccepted
returns-in_err-meant-clause-unaccepted g c =
    let q = err_from_is_err_and c.from_residual.result c.from_residual.ensures.1 in
    rw (q.1, q.2) (c.in_err-meant.ensures.fault c.args.input.now (g.S.Source.remaining c.args.source.now))

pub returns-in_err-numbers-clause-unaccepted : goal.returns-in_err-numbers-clause-unaccepted
returns-in_err-numbers-clause-unaccepted g c =
    let q = err_from_is_err_and c.from_residual-in_err-numbers.result c.from_residual-in_err-numbers.ensures.1 in
    rw (q.1, q.2) (c.in_err-numbers.ensures.fault c.args.program.now (meant c.in_ok-meant.meant)
    (g.S.Source.remaining c.args.source.now) c.in_ok-meant.ensures.meant)

pub returns-clause-texts : goal.returns-clause-texts
returns-clause-texts g c =
    texts_kept c.args.program.now c.args.input.now c.check_run.result c.in_ok-meant.meant c.in_ok-numbers.numbers c.check_run.ensures.program c.check_run.ensures.input
    (record { program_is = c.in_ok-meant.ensures.meant; input_is = c.in_ok-numbers.ensures.numbers })

pub returns-clause-accepted : goal.returns-clause-accepted
returns-clause-accepted g c =
    certified_kept (g.S.Source.remaining c.args.source.now) c.check_run.result c.in_ok-meant.meant c.in_ok-numbers.numbers c.check_run.ensures.program c.check_run.ensures.input
    c.check_run.ensures.accepted

pub returns-clause-unaccepted : goal.returns-clause-unaccepted
returns-clause-unaccepted g c =
    IfErr-weaker c.check_run.result _ _
    (λ e h. true_answer c.args.program.now c.args.input.now (g.S.Source.remaining c.args.source.now)
    (meant c.in_ok-meant.meant) c.in_ok-numbers.numbers
    (g.S.Source.failed c.args.source.now) (g.S.Source.failed c.check_run.new.source)
    (record { program_is = c.in_ok-meant.ensures.meant; input_is = c.in_ok-numbers.ensures.numbers }) e h)
    c.check_run.ensures.unaccepted

pub returns-in_err-meant-clause-only : goal.returns-in_err-meant-clause-only
returns-in_err-meant-clause-only g c =
    only_by c.args.program.now c.args.input.now (g.S.Source.remaining c.args.source.now)
    (g.S.Source.failed c.args.source.now) (g.S.Source.failed c.args.source.now) c.from_residual.result
    (returns-in_err-meant-clause-unaccepted g c)

pub returns-in_err-numbers-clause-only : goal.returns-in_err-numbers-clause-only
returns-in_err-numbers-clause-only g c =
    only_by c.args.program.now c.args.input.now (g.S.Source.remaining c.args.source.now)
    (g.S.Source.failed c.args.source.now)
    (g.S.Source.failed c.args.source.now) c.from_residual-in_err-numbers.result
    (returns-in_err-numbers-clause-unaccepted g c)

pub returns-clause-only : goal.returns-clause-only
returns-clause-only g c =
    only_by c.args.program.now c.args.input.now (g.S.Source.remaining c.args.source.now)
    (g.S.Source.failed c.args.source.now) (g.S.Source.failed c.check_run.new.source) c.check_run.result
    (returns-clause-unaccepted g c)

pub returns-clause-one : goal.returns-clause-one
returns-clause-one g c =
    one_by c.args.program.now c.args.input.now (g.S.Source.remaining c.args.source.now)
    (g.S.Source.failed c.args.source.now) (g.S.Source.failed c.check_run.new.source) c.check_run.result
    (returns-clause-texts g c) (returns-clause-accepted g c) (returns-clause-unaccepted g c)

pub returns-in_err-meant-clause-one : goal.returns-in_err-meant-clause-one
returns-in_err-meant-clause-one g c =
    let q = err_from_is_err_and c.from_residual.result c.from_residual.ensures.1 in
    let h = returns-in_err-meant-clause-unaccepted g c in
    one_by c.args.program.now c.args.input.now (g.S.Source.remaining c.args.source.now)
    (g.S.Source.failed c.args.source.now) (g.S.Source.failed c.args.source.now) c.from_residual.result
    (rw q.1 tt) (rw q.1 tt) h

pub returns-in_err-numbers-clause-one : goal.returns-in_err-numbers-clause-one
returns-in_err-numbers-clause-one g c =
    let q = err_from_is_err_and c.from_residual-in_err-numbers.result c.from_residual-in_err-numbers.ensures.1 in
    let h = returns-in_err-numbers-clause-unaccepted g c in
    one_by c.args.program.now c.args.input.now (g.S.Source.remaining c.args.source.now)
    (g.S.Source.failed c.args.source.now)
    (g.S.Source.failed c.args.source.now) c.from_residual-in_err-numbers.result
    (rw q.1 tt) (rw q.1 tt) h

pub returns-clause-unpulled : goal.returns-clause-unpulled
returns-clause-unpulled g c =
    IfErr-weaker c.check_run.result _ _
    (λ e h t. absurd (not_of_texts (source c.in_ok-meant.meant) c.in_ok-numbers.numbers
    (g.S.Source.remaining c.args.source.now) (g.S.Source.failed c.args.source.now)
    (g.S.Source.failed c.check_run.new.source) e h t))
    c.check_run.ensures.unaccepted

pub returns-in_err-meant-clause-part : goal.returns-in_err-meant-clause-part
returns-in_err-meant-clause-part g c =
    let q = err_from_is_err_and c.from_residual.result c.from_residual.ensures.1 in
    let known = g.S.Source.remaining c.args.source.now in
    rw (q.1, q.2) (until_judged known (g.S.Source.last c.args.source.now) c.in_err-meant.field-0.0 c.in_err-meant.ensures.judgement)

pub returns-in_err-numbers-clause-part : goal.returns-in_err-numbers-clause-part
returns-in_err-numbers-clause-part g c =
    let q = err_from_is_err_and c.from_residual-in_err-numbers.result c.from_residual-in_err-numbers.ensures.1 in
    let known = g.S.Source.remaining c.args.source.now in
    rw (q.1, q.2) (until_judged known (g.S.Source.last c.args.source.now) c.in_err-numbers.field-0.0 c.in_err-numbers.ensures.judgement)

pub returns-clause-part : goal.returns-clause-part
returns-clause-part g c = IfErr-weaker c.check_run.result _ _ (λ e h other. h) c.check_run.ensures.part

pub returns-in_err-meant-clause-unfailed : goal.returns-in_err-meant-clause-unfailed
returns-in_err-meant-clause-unfailed g c =
    let q = err_from_is_err_and c.from_residual.result c.from_residual.ensures.1 in
    rw (q.1, q.2) refl

pub returns-in_err-numbers-clause-unfailed : goal.returns-in_err-numbers-clause-unfailed
returns-in_err-numbers-clause-unfailed g c =
    let q = err_from_is_err_and c.from_residual-in_err-numbers.result c.from_residual-in_err-numbers.ensures.1 in
    rw (q.1, q.2) refl
