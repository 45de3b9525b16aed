-- The stretches that a state's pieces cover, and their views.
--
-- - `pieces_cover`: the law.
use Rattle.std.proofs.Common.{ℤ, List}
use Rattle.cilk_program.specs.Syntax.{Source}
use Rattle.cilk_determinacy.specs.Runs.{Output}
use Rattle.cilk_determinacy.proofs.Stretched.{are_stretches}
use Rattle.cilk_determinacy.proofs.StretchViews.{are_views}
use Rattle.cilk_determinacy.proofs.MachineTheorem.{follows_determined}
use Rattle.cilk_determinacy.specs.FrameEnvMachine.{next, costs, opening_values}
use Rattle.cilk_determinacy.specs.Reducers.{monoid_of}
use Rattle.cilk_determinacy.specs.Steps.{Next}
use Rattle.cilk_determinacy.specs.FrameEnvs.{first_env}
use Rattle.cilk_determinacy.specs.Nested.{named}
use Rattle.cilk_determinacy.specs.Pieces.{PiecesCover}
use Rattle.cilk_determinacy.proofs.Assembled.{views_lawful}
use Rattle.cilk_determinacy.proofs.Determinate.{known, no_races}

pub pieces_cover : (p : Source) (inputs : List ℤ) → PiecesCover p inputs
pieces_cover p inputs r es outcome free s cut = (
  are_stretches monoid_of (costs p inputs) (first_env p) (named p r) (opening_values p inputs) s Output cut,
  are_views monoid_of views_lawful (Next p inputs) (costs p inputs) (first_env p) (named p r) (opening_values p inputs) (follows_determined (next p inputs)) (known p inputs r es outcome free) (no_races p inputs r es outcome free) s cut,
)
