use Rattle.std.proofs.Common.{◌<◌, length, arith}
use Rattle.cilk_program.specs.declared.syntax.ReducerPlace.TheVariants.{Global}
use Rattle.cilk_lower.proofs.Rows.{globals_more}
use Rattle.cilk_lower.proofs.bodies.put_globals.Goals as goal

pub each-preserved : goal.each-preserved
each-preserved c =
    let low : c.each.n < length c.args.reducers.now = omega (arith, c.each-test.true) in
    globals_more Global c.args.code.now.items c.each.code.items _ c.args.reducers.now c.each.n c.index-reducers-n.result low c.index-reducers-n.is c.each.invariant c.in_ok-put_create.ensures
