use Rattle.std.proofs.Common.{[], sym, ap, ◌∙◌, append-nil}
use Rattle.std.proofs.lemmas.Result.{err_from_is_err_and}
use Rattle.cilk_cert_text.specs.Reading.{Reading, reading_of}
use Rattle.cilk_cert_text.proofs.read.parts_of.Goals as goal

pub returns-in_err-take-clause-fault : goal.returns-in_err-take-clause-fault
returns-in_err-take-clause-fault c =
    let p = err_from_is_err_and c.from_residual.result c.from_residual.ensures.1 in
    rw (p.1, p.2) (λ other. ap (λ (x : Reading). x.fault) (ap reading_of (sym (append-nil c.args.text.now)) ∙ sym (c.new-reader.ensures.text _)) ∙ c.in_err-take.ensures.fault other [])
