use Rattle.std.proofs.Common.{◌≡◌, ◌+◌, ◌<◌, ◌∙◌, length, ap, sym, arith}
use Rattle.cilk_workers.specs.Shared.{event_order_in}
use Rattle.cilk_workers.proofs.SpawnCounts.{no_more, one_more}
use Rattle.cilk_workers.proofs.shared.Shared.spawns.Goals as goal
use Rattle.cilk_workers.proofs.shared.Shared.spawns.Goals.{else-is_spawn, then-is_spawn}

pub each-preserved : goal.each-preserved
each-preserved c =
    let s = event_order_in c.args.self.now in
    let i = c.each.before in
    let few = c.each.invariant.1 in
    let less : i < length s.events = (let here = c.each-test.true in let all = c.events-before-end.ensures in omega (arith, here, all)) in
    elim c.if-is_spawn.branch [
      | then-is_spawn w ↦ rw w.count-is (ap (λ n. n + 1) c.each.invariant.0 ∙ sym (one_more s.events i c.is_spawn.result less c.is_spawn.ensures w.if-is_spawn.true), omega (arith, few))
      | else-is_spawn w ↦ rw w.count-is (c.each.invariant.0 ∙ sym (no_more s.events i c.is_spawn.result less c.is_spawn.ensures w.if-is_spawn.false), omega (arith, few))
    ]
