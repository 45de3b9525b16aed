use Rattle.std.proofs.Common.{◌≡◌, ◌<◌, ◌≤◌, ◌+◌, ◌-◌, suc, drop, length, slice_get, subst, sym, ap, ◌∙◌, arith}
use Rattle.cilk_scheduler.specs.declared.frame_state.Worker.{Worker}
use Rattle.cilk_scheduler.specs.Workers.{offers}
use Rattle.cilk_scheduler.proofs.Placed.{get_there, located, passed_by}
use Rattle.cilk_scheduler.proofs.offers.locate.Goals as goal

pub returns-then-rest-count : goal.returns-then-rest-count
returns-then-rest-count c =
    let u = c.index-workers-victim.result in
    let at = get_there c.args.workers.now c.each.victim u c.index-workers-victim.is c.each-test.true in
    let count = c.len-count.ensures ∙ ap (λ (w : Worker). let o = w.offered in length o.items) (sym c.index-workers-victim.is) in
    located c.args.workers.now c.args.place c.each.victim c.each.rest u c.each.invariant at (subst (λ n. c.each.rest < n) count c.if-rest-count.true)

pub each-preserved : goal.each-preserved
each-preserved c =
    let u = c.index-workers-victim.result in
    let at = get_there c.args.workers.now c.each.victim u c.index-workers-victim.is c.each-test.true in
    let count = c.len-count.ensures ∙ ap (λ (w : Worker). let o = w.offered in length o.items) (sym c.index-workers-victim.is) in
    let next : c.each.victim + 1 ≡ suc c.each.victim = omega arith in
    ap (λ n. slice_get (offers (drop (c.each.victim + 1) c.args.workers.now)) (c.each.rest - n)) count
    ∙ passed_by c.args.workers.now c.args.place c.each.victim c.each.rest (c.each.victim + 1) u c.each.invariant at (subst (λ n. n ≤ c.each.rest) count c.if-rest-count.false) next
