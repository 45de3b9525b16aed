use Rattle.std.proofs.Common.{None, Some, refl, arith, ◌≡◌, suc, ◌+◌}
use Rattle.cilk_frames.specs.declared.activation.Activation.{Activation}
use Rattle.cilk_frames.proofs.Links.{sees_root}
use Rattle.cilk_frames.proofs.beginnings.root.Goals as goal

pub returns-clause-sees : goal.returns-clause-sees
returns-clause-sees g c = λ p frames globals reducers.
    let made : Activation g.row.C.Denot = record { cursor = c.args.cursor; number = 1; base = c.args.globals; first = c.args.reducers + 1; given = c.new.result; outer = None; result = None; creator = Some c.args.main } in
    let first : c.args.reducers + 1 ≡ suc c.args.reducers = omega arith in
    sees_root p frames made c.args.globals c.args.reducers refl refl first c.new.ensures.items refl c.requires reducers
