-- A consistent cut is closed under before, by positions of the serial run's list.
--
-- - `cuts_closed`: the law.
use Rattle.std.proofs.Common.{ℤ, List, [], subst}
use Rattle.cilk_program.specs.Syntax.{Source}
use Rattle.cilk_determinacy.specs.Cuts.{below}
use Rattle.cilk_determinacy.specs.Machine.{deeds_at}
use Rattle.cilk_determinacy.specs.CutPositions.{IsClosedBefore}
use Rattle.cilk_determinacy.specs.Traces.{shape_of}
use Rattle.cilk_determinacy.proofs.CutPositions.{cuts_closed as closed_before}
use Rattle.cilk_tree.specs.Tree.{tree}
use Rattle.cilk_tree.proofs.Spelled.{spells_one}
use Rattle.cilk_determinacy.specs.FrameEnvs.{FrameEnv}
use Rattle.cilk_determinacy.specs.Nested.{named}
use Rattle.cilk_determinacy.specs.Numbers.{cell_number, instance_number}
use Rattle.cilk_determinacy.specs.Positions.{made, CutsAreClosed}
use Rattle.cilk_determinacy.proofs.Determinate.{serial_numbered}

pub cuts_closed : (p : Source) (inputs : List ℤ) → CutsAreClosed p inputs
cuts_closed p inputs r es outcome well runs shape spells s cut =
    let n = serial_numbered p inputs r es outcome well runs in
    let closed = closed_before FrameEnv (cell_number p r) (instance_number p r) (named p r) es (deeds_at (s.frames [])) (below s.frames) n.framed n.written cut.cut in
    subst (λ t. IsClosedBefore es (tree t) (made p r s)) (spells_one (shape_of (named p r)) shape es n.spells spells) closed
