use Rattle.std.proofs.Common.{arith}
use Rattle.cilk_program.specs.declared.program.Loop.{Loop}
use Rattle.cilk_lower.proofs.Mapped.{mapped_more}
use Rattle.cilk_lower.proofs.layout.loop_cells.Goals as goal

pub each-preserved : goal.each-preserved
each-preserved c = mapped_more (λ (r : Loop). r.cells) c.args.loops.now c.each.l-index c.l-item.result _ _ (omega (arith, c.each-test.true)) c.l-item.is c.each.invariant c.in_ok-push.ensures.items
