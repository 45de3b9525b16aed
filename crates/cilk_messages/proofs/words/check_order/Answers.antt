use Rattle.std.proofs.Common.{ap, option_map, ◌∙◌, sym}
use Rattle.clap.specs.Words.{found_of, rows_of}
use Rattle.cilk_messages.specs.Words.{Check, order_view}
use Rattle.cilk_messages.proofs.Entered.{asked_by, no_certificate, some_certificate}
use Rattle.cilk_messages.proofs.words.check_order.Goals as goal

pub returns-in_err-certificate : goal.returns-in_err-certificate
returns-in_err-certificate c =
    ap (option_map order_view) c.from_residual.ensures
    ∙ sym (no_certificate (found_of c.args.check.now) _ c.get_str.ensures c.in_err-certificate.was)

pub returns-in-Some : goal.returns-in-Some
returns-in-Some c =
    asked_by (λ paths. Check paths.0 c.in_ok-certificate.certificate.now paths.1) (rows_of (found_of c.args.check.now)) _ _ c.paths.ensures c.in-Some.is
    ∙ sym (some_certificate (found_of c.args.check.now) _ _ c.get_str.ensures c.in_ok-certificate.was)

pub returns-in-None : goal.returns-in-None
returns-in-None c =
    asked_by (λ paths. Check paths.0 c.in_ok-certificate.certificate.now paths.1) (rows_of (found_of c.args.check.now)) _ _ c.paths.ensures c.in-None.is
    ∙ sym (some_certificate (found_of c.args.check.now) _ _ c.get_str.ensures c.in_ok-certificate.was)
