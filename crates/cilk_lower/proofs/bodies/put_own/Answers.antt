use Rattle.std.proofs.Common.{◌<◌, length, arith}
use Rattle.cilk_program.specs.declared.syntax.ReducerPlace.TheVariants.{Own}
use Rattle.cilk_lower.proofs.Rows.{creates_more}
use Rattle.cilk_lower.proofs.bodies.put_own.Goals as goal

pub each-preserved : goal.each-preserved
each-preserved c =
    let low : c.each.n < length c.args.kinds.now = omega (arith, c.each-test.true) in
    creates_more (Own 0) c.args.code.now.items c.each.code.items _ c.args.kinds.now c.each.n _ low c.each.invariant c.in_ok-put_create.ensures
