-- The program of a tree is well named.
use Rattle.cilk_names.proofs.WellNamed.{resolved_named}
use Rattle.cilk_names.proofs.resolution.resolves_well_named.Goals as goal

pub returns : goal.returns
returns c = resolved_named
