use Rattle.std.proofs.Common.{◌≡◌, ◌+◌, ◌-◌, suc, sym, ap, ◌∙◌, arith, length}
use Rattle.cilk_monoid.specs.Kinds.{structure_of}
use Rattle.cilk_monoid.specs.Ranges.{Retired, view_after, after_event}
use Rattle.cilk_hypermap.specs.Hypermap.{value_in}
use Rattle.cilk_shared.specs.Reducers.{ends_from}
use Rattle.cilk_shared.proofs.Ends.{ends_step, value_retired}
use Rattle.cilk_shared.proofs.views.retire.Goals as goal

pub each-preserved : goal.each-preserved
each-preserved c k i =
    let S = structure_of k in
    let n = length c.args.own.now.kinds in
    let next : c.each.place + 1 ≡ suc c.each.place = omega arith in
    ap (λ p. view_after S i (ends_from c.args.frame (suc p) (n - p)) (value_in c.retire.new.self k i)) next
    ∙ ap (view_after S i (ends_from c.args.frame (suc (suc c.each.place)) (n - suc c.each.place)))
    (value_retired c.each.views c.retire.new.self _ c.retire.ensures k i ∙ ap (λ p. after_event S i (Retired (record { frame = c.args.frame; place = p })) (value_in c.each.views k i)) next)
    ∙ sym (ap (λ es. view_after S i es (value_in c.each.views k i)) (ends_step c.args.frame c.each.place n (omega (arith, c.each-test.true, c.len-place-end.ensures))))
    ∙ c.each.invariant k i
