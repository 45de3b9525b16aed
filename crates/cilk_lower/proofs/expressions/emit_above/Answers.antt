use Rattle.std.proofs.Common.{length, ap, arith, length-append}
use Rattle.cilk_program.specs.Programs.{expression}
use Rattle.cilk_lower.specs.Code.{expr_code}
use Rattle.cilk_lower.proofs.Values.{depth_short}
use Rattle.cilk_lower.proofs.expressions.emit_above.Goals as goal

-- the operands are fewer than the instructions, which fit in memory
pub overflow_add-needed : goal.overflow_add-needed
overflow_add-needed c =
    let e = expression c.args.e.now in
    let code = ap length c.in_ok-needed.ensures.code in
    omega (arith, code, length-append c.args.code.now.items (expr_code e), depth_short e, c.in_ok-needed.ensures.depth, c.emit_expr.new.code.small, c.requires)
