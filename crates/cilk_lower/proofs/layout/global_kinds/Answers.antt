use Rattle.std.proofs.Common.{arith}
use Rattle.cilk_program.specs.declared.program.GlobalReducer.{GlobalReducer}
use Rattle.cilk_lower.proofs.Mapped.{mapped_more}
use Rattle.cilk_lower.proofs.layout.global_kinds.Goals as goal

pub each-preserved : goal.each-preserved
each-preserved c = mapped_more (λ (r : GlobalReducer). r.kind) c.args.reducers.now c.each.reducer-index c.reducer-item.result _ _ (omega (arith, c.each-test.true)) c.reducer-item.is c.each.invariant c.in_ok-push.ensures.items
