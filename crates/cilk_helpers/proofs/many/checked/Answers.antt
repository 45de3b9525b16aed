use Rattle.std.proofs.Common.{ℕ, List, Some, IfOk, refl, subst}
use Rattle.std.proofs.lemmas.Result.{IfErr-weaker, err_from_is_err_and}
use Rattle.cilk_program.specs.Sources.{source}
use Rattle.cilk_checker.specs.Judging.{meant}
use Rattle.cilk_checker.specs.Answers.{IsCertified}
use Rattle.cilk_checker.specs.Texts.{IsTrueAnswer}
use Rattle.cilk_checker.proofs.Judged.{certified_kept, texts_kept, true_answer}
use Rattle.cilk_checker.proofs.OneVerdict.{one_by, only_by}
use Rattle.cilk_helpers.proofs.many.checked.Goals as goal

pub returns-in_err-meant-clause-unaccepted : goal.returns-in_err-meant-clause-unaccepted
returns-in_err-meant-clause-unaccepted g c =
    let q = err_from_is_err_and c.from_residual.result c.from_residual.ensures.1 in
    rw (q.1, q.2) (c.in_err-meant.ensures.fault c.args.input.now (Some c.args.certificate.now))

pub returns-in_err-meant-clause-only : goal.returns-in_err-meant-clause-only
returns-in_err-meant-clause-only g c =
    only_by c.args.program.now c.args.input.now (Some c.args.certificate.now) 0 0 c.from_residual.result
    (returns-in_err-meant-clause-unaccepted g c) c.args.certificate.now refl

pub returns-in_err-meant-clause-one : goal.returns-in_err-meant-clause-one
returns-in_err-meant-clause-one g c =
    let q = err_from_is_err_and c.from_residual.result c.from_residual.ensures.1 in
    one_by c.args.program.now c.args.input.now (Some c.args.certificate.now) 0 0 c.from_residual.result
    (rw q.1 tt) (rw q.1 tt) (returns-in_err-meant-clause-unaccepted g c) c.args.certificate.now refl

pub returns-in_err-numbers-clause-unaccepted : goal.returns-in_err-numbers-clause-unaccepted
returns-in_err-numbers-clause-unaccepted g c =
    let q = err_from_is_err_and c.from_residual-in_err-numbers.result c.from_residual-in_err-numbers.ensures.1 in
    rw (q.1, q.2) (c.in_err-numbers.ensures.fault c.args.program.now (meant c.in_ok-meant.meant)
    (Some c.args.certificate.now) c.in_ok-meant.ensures.meant)

pub returns-in_err-numbers-clause-only : goal.returns-in_err-numbers-clause-only
returns-in_err-numbers-clause-only g c =
    only_by c.args.program.now c.args.input.now (Some c.args.certificate.now) 0 0 c.from_residual-in_err-numbers.result
    (returns-in_err-numbers-clause-unaccepted g c) c.args.certificate.now refl

pub returns-in_err-numbers-clause-one : goal.returns-in_err-numbers-clause-one
returns-in_err-numbers-clause-one g c =
    let q = err_from_is_err_and c.from_residual-in_err-numbers.result c.from_residual-in_err-numbers.ensures.1 in
    one_by c.args.program.now c.args.input.now (Some c.args.certificate.now) 0 0 c.from_residual-in_err-numbers.result
    (rw q.1 tt) (rw q.1 tt) (returns-in_err-numbers-clause-unaccepted g c) c.args.certificate.now refl

pub returns-in_err-run-clause-unaccepted : goal.returns-in_err-run-clause-unaccepted
returns-in_err-run-clause-unaccepted g c =
    let q = err_from_is_err_and c.from_residual-in_err-run.result c.from_residual-in_err-run.ensures.1 in
    rw (q.1, q.2, c.in_err-run.ensures.memory) tt

pub returns-in_err-run-clause-only : goal.returns-in_err-run-clause-only
returns-in_err-run-clause-only g c =
    only_by c.args.program.now c.args.input.now (Some c.args.certificate.now) 0 0 c.from_residual-in_err-run.result
    (returns-in_err-run-clause-unaccepted g c) c.args.certificate.now refl

pub returns-in_err-run-clause-one : goal.returns-in_err-run-clause-one
returns-in_err-run-clause-one g c =
    let q = err_from_is_err_and c.from_residual-in_err-run.result c.from_residual-in_err-run.ensures.1 in
    one_by c.args.program.now c.args.input.now (Some c.args.certificate.now) 0 0 c.from_residual-in_err-run.result
    (rw q.1 tt) (rw q.1 tt) (returns-in_err-run-clause-unaccepted g c) c.args.certificate.now refl

pub returns-clause-texts : goal.returns-clause-texts
returns-clause-texts g c =
    texts_kept c.args.program.now c.args.input.now c.check_end.result c.in_ok-meant.meant c.in_ok-numbers.numbers c.check_end.ensures.program c.check_end.ensures.input
    (record { program_is = c.in_ok-meant.ensures.meant; input_is = c.in_ok-numbers.ensures.numbers })

pub returns-clause-accepted : goal.returns-clause-accepted
returns-clause-accepted g c =
    let kept = certified_kept (Some c.new-source.result.rest.now) c.check_end.result c.in_ok-meant.meant c.in_ok-numbers.numbers c.check_end.ensures.program c.check_end.ensures.input
    c.check_end.ensures.accepted in
    subst (λ (text : List ℕ). IfOk c.check_end.result (λ a. IsCertified (source a.program) a.input (Some text) a.trace a.outcome)) c.new-source.ensures kept

pub returns-clause-unaccepted : goal.returns-clause-unaccepted
returns-clause-unaccepted g c =
    IfErr-weaker c.check_end.result _ _
    (λ e h. subst (λ (text : List ℕ). IsTrueAnswer c.args.program.now c.args.input.now (Some text) 0 0 e) c.new-source.ensures
    (true_answer c.args.program.now c.args.input.now (Some c.new-source.result.rest.now)
    (meant c.in_ok-meant.meant) c.in_ok-numbers.numbers 0 0
    (record { program_is = c.in_ok-meant.ensures.meant; input_is = c.in_ok-numbers.ensures.numbers }) e h))
    c.check_end.ensures.unaccepted

pub returns-clause-only : goal.returns-clause-only
returns-clause-only g c =
    only_by c.args.program.now c.args.input.now (Some c.args.certificate.now) 0 0 c.check_end.result
    (returns-clause-unaccepted g c) c.args.certificate.now refl

pub returns-clause-one : goal.returns-clause-one
returns-clause-one g c =
    one_by c.args.program.now c.args.input.now (Some c.args.certificate.now) 0 0 c.check_end.result
    (returns-clause-texts g c) (returns-clause-accepted g c) (returns-clause-unaccepted g c) c.args.certificate.now refl
