use Rattle.clap.specs.Words.{found_of, rows_of}
use Rattle.cilk_messages.specs.Words.{Certify}
use Rattle.cilk_messages.proofs.Entered.{asked_by}
use Rattle.cilk_messages.proofs.words.certify_order.Goals as goal

pub returns-in-Some : goal.returns-in-Some
returns-in-Some c = asked_by (λ paths. Certify paths.0 paths.1) (rows_of (found_of c.args.certify.now)) _ _ c.paths.ensures c.in-Some.is

pub returns-in-None : goal.returns-in-None
returns-in-None c = asked_by (λ paths. Certify paths.0 paths.1) (rows_of (found_of c.args.certify.now)) _ _ c.paths.ensures c.in-None.is
