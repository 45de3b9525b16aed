use Rattle.std.proofs.Common.{List, sym, subst}
use Rattle.cilk_frames.specs.declared.activation.Activation.{Activation}
use Rattle.cilk_frames.specs.Sight.{HasScope}
use Rattle.cilk_frames.proofs.call_stack.CallStack.reducer.Goals as goal

pub instance-requires-clause-sees : goal.instance-requires-clause-sees
instance-requires-clause-sees g c =
    let sees = c.requires.sees in (sees.0, subst (λ (xs : List (Activation g.row.C.Denot)). HasScope xs c.args.self.now.top sees.0) (sym c.as_slice.ensures.value) sees.1)

pub instance-requires-clause-small : goal.instance-requires-clause-small
instance-requires-clause-small g c = c.requires.small

pub returns : goal.returns
returns g c = λ scope sees. c.instance.ensures scope (subst (λ (xs : List (Activation g.row.C.Denot)). HasScope xs c.args.self.now.top scope) (sym c.as_slice.ensures.value) sees)
