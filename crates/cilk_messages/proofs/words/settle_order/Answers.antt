use Rattle.clap.specs.Words.{found_of, rows_of}
use Rattle.cilk_messages.specs.Words.{Settle}
use Rattle.cilk_messages.proofs.Entered.{asked_by}
use Rattle.cilk_messages.proofs.words.settle_order.Goals as goal

pub returns-in-Some : goal.returns-in-Some
returns-in-Some c = asked_by (λ paths. Settle paths.0 paths.1) (rows_of (found_of c.args.settle.now)) _ _ c.paths.ensures c.in-Some.is

pub returns-in-None : goal.returns-in-None
returns-in-None c = asked_by (λ paths. Settle paths.0 paths.1) (rows_of (found_of c.args.settle.now)) _ _ c.paths.ensures c.in-None.is
