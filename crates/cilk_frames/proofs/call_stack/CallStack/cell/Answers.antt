use Rattle.std.proofs.Common.{List, sym, subst}
use Rattle.cilk_frames.specs.declared.activation.Activation.{Activation}
use Rattle.cilk_frames.specs.Sight.{HasScope}
use Rattle.cilk_frames.proofs.call_stack.CallStack.cell.Goals as goal

pub cell-requires : goal.cell-requires
cell-requires g c =
    let sees = c.requires in (sees.0, subst (λ (xs : List (Activation g.row.C.Denot)). HasScope xs c.args.self.now.top sees.0) (sym c.as_slice.ensures.value) sees.1, sees.2)

pub returns : goal.returns
returns g c = λ scope sees. c.cell.ensures scope (subst (λ (xs : List (Activation g.row.C.Denot)). HasScope xs c.args.self.now.top scope) (sym c.as_slice.ensures.value) sees)
