use Rattle.cilk_determinacy.proofs.StrandNames.{strands_have_names}
use Rattle.cilk_determinacy.proofs.positions.strands_have_names.Goals as goal

pub returns : goal.returns
returns c = strands_have_names
