use Rattle.std.proofs.Common.{◌-◌, cond, refl, sym, ap, ◌∙◌}
use Rattle.cilk_scheduler.specs.declared.frame_state.Worker.{Worker}
use Rattle.cilk_scheduler.specs.EndParts.{OfferedBy}
use Rattle.cilk_scheduler.proofs.Parts.{altered_at}
use Rattle.cilk_scheduler.proofs.Placed.{get_there}
use Rattle.cilk_scheduler.proofs.ending.take_back.Goals as goal

pub returns-then-withdraw : goal.returns-then-withdraw
returns-then-withdraw c =
    let u = c.index_mut.result.now in
    let low = c.requires c.in-Offered.other c.in-Offered.is in
    let free : Worker = record u { offered = c.withdraw.new.offered } in
    OfferedBy c.in-Offered.other u free c.withdraw.result c.in-Offered.is (get_there c.args.workers.now.items c.in-Offered.other u c.index_mut.ensures.value low) refl c.withdraw.ensures
    (altered_at (λ _. free) c.args.workers.now.items c.in-Offered.other u c.index_mut.ensures.value low) (c.saturating_sub.ensures ∙ sym (ap (λ t. cond t (c.args.offered - 1) c.args.offered) c.if-withdraw.true))

pub returns-else-withdraw : goal.returns-else-withdraw
returns-else-withdraw c =
    let u = c.index_mut.result.now in
    let low = c.requires c.in-Offered.other c.in-Offered.is in
    let free : Worker = record u { offered = c.withdraw.new.offered } in
    OfferedBy c.in-Offered.other u free c.withdraw.result c.in-Offered.is (get_there c.args.workers.now.items c.in-Offered.other u c.index_mut.ensures.value low) refl c.withdraw.ensures
    (altered_at (λ _. free) c.args.workers.now.items c.in-Offered.other u c.index_mut.ensures.value low) (sym (ap (λ t. cond t (c.args.offered - 1) c.args.offered) c.if-withdraw.false))
