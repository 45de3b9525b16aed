use Rattle.std.proofs.Common.{◌<◌, ◌++◌, length, map, take, sym, ap, ◌∙◌, arith, append_assoc}
use Rattle.cilk_program.specs.Programs.{expression}
use Rattle.cilk_lower.specs.Code.{expr_code, exprs_code}
use Rattle.cilk_lower.proofs.Rows.{exprs_more, depths_more}
use Rattle.cilk_lower.proofs.expressions.emit_values.Goals as goal

pub each-preserved : goal.each-preserved
each-preserved c =
    let row = c.args.row.now in
    let i = c.each.i in
    let e = c.index-row-i.result in
    let low : i < length row = omega (arith, c.each-test.true) in
    let base = c.args.code.now.items in
    record {
      code = c.in_ok-emit_above.ensures.code
          ∙ ap (λ l. l ++ expr_code (expression e)) c.each.invariant.code
          ∙ append_assoc base (exprs_code (map expression (take i row))) (expr_code (expression e))
          ∙ ap (λ l. base ++ l) (sym (exprs_more row i e low c.index-row-i.is));
      room = omega (arith, c.in_ok-emit_above.ensures.room, c.each.invariant.room, depths_more row i e low c.index-row-i.is);
    }
