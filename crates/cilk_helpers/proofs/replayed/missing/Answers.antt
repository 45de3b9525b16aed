use Rattle.cilk_helpers.proofs.Blank.{blank}
use Rattle.cilk_helpers.proofs.replayed.missing.Goals as goal

pub returns-clause-replayed : goal.returns-clause-replayed
returns-clause-replayed c = λ code p inputs. blank code p inputs (record { callee = c.nothing.result; notes = c.new.result }) c.nothing.ensures c.new.ensures.items
