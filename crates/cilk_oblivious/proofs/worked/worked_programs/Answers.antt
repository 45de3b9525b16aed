use Rattle.cilk_oblivious.proofs.Computed.{product_is_oblivious, branch_is_not_oblivious}
use Rattle.cilk_oblivious.proofs.worked.worked_programs.Goals as goal

pub returns : goal.returns
returns c = record { product = product_is_oblivious; branch = branch_is_not_oblivious }
