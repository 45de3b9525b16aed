use Rattle.std.proofs.Common.{◌∙◌}
use Rattle.std.proofs.lemmas.Result.{err_from_is_err_and}
use Rattle.cilk_cert_text.specs.Parts.{said, joined_pieces}
use Rattle.cilk_cert_text.proofs.Texts.{is_read, only_ok, only_err}
use Rattle.cilk_cert_text.proofs.read.read_pieces.Goals as goal

pub returns-in_err-parts-clause-only : goal.returns-in_err-parts-clause-only
returns-in_err-parts-clause-only c = λ d fits is.
    let p = err_from_is_err_and c.from_residual.result c.from_residual.ensures.1 in
    rw (p.1, p.2) (only_err (joined_pieces c.args.pieces.now) c.in_err-parts.field-0.0 c.in_err-parts.ensures.fault d fits is)

pub finish-requires : goal.finish-requires
finish-requires c = (is_read (joined_pieces c.args.pieces.now) (said c.in_ok-parts.parts) c.in_ok-parts.ensures.said c.in_ok-parts.ensures.whole).fits

pub returns-clause-found : goal.returns-clause-found
returns-clause-found c =
    let r = is_read (joined_pieces c.args.pieces.now) c.finish.result (c.finish.ensures ∙ c.in_ok-parts.ensures.said) c.in_ok-parts.ensures.whole in
    (r.fits, r.text_is)

pub returns-clause-only : goal.returns-clause-only
returns-clause-only c = λ d fits is. only_ok (joined_pieces c.args.pieces.now) c.finish.result d (c.finish.ensures ∙ c.in_ok-parts.ensures.said) fits is

pub returns-clause-lines : goal.returns-clause-lines
returns-clause-lines c = (is_read (joined_pieces c.args.pieces.now) c.finish.result (c.finish.ensures ∙ c.in_ok-parts.ensures.said) c.in_ok-parts.ensures.whole).lines
