-- A tree resolves to at most one program.
use Rattle.cilk_names.proofs.Verdicts.{resolves_once}
use Rattle.cilk_names.proofs.resolution.one_program.Goals as goal

pub returns : goal.returns
returns c = resolves_once
