use Rattle.cilk_program.proofs.Numbers.{one_name, past_globals}
use Rattle.cilk_program.proofs.runs.numbering_is_injective.Goals as goal

pub returns : goal.returns
returns c = record { frames = one_name; globals = past_globals }
