use Rattle.cilk_shared.proofs.Worked.{two_updates_are_settled}
use Rattle.cilk_shared.proofs.piece_laws.worked_run_is_settled.Goals as goal

pub returns : goal.returns
returns c = two_updates_are_settled
