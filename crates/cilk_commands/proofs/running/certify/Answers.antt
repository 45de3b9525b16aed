use Rattle.cilk_checker.specs.Judging.{meant}
use Rattle.cilk_commands.specs.Serving.{Unjudged}
use Rattle.cilk_commands.specs.Shown.{CertifyShows}
use Rattle.cilk_commands.proofs.Replying.{alone_err, alone_ok, handed}
use Rattle.cilk_commands.proofs.running.certify.Goals as goal

pub returns-in_err-program-clause-failure : goal.returns-in_err-program-clause-failure
returns-in_err-program-clause-failure g c =
    handed c.from_residual.result c.in_err-program.field-0.0 _ c.from_residual.ensures.1 (Unjudged c.in_err-program.ensures.failure)

pub returns-clause-answer : goal.returns-clause-answer
returns-clause-answer g c =
    alone_ok CertifyShows c.certificate.result _ _ _ (meant c.in_ok-program.program) c.in_ok-program.input
    c.in_ok-program.ensures.given c.in_ok-program.ensures.uncounted c.certificate.ensures.ok

pub returns-clause-failure : goal.returns-clause-failure
returns-clause-failure g c =
    alone_err CertifyShows c.certificate.result _ _ _ (meant c.in_ok-program.program) c.in_ok-program.input
    c.in_ok-program.ensures.given c.in_ok-program.ensures.uncounted c.certificate.ensures.err
