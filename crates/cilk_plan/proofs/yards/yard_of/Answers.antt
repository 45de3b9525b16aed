use Rattle.std.proofs.Common.{List, ℕ, sym, subst}
use Rattle.cilk_tree.specs.Along.{IsAlong}
use Rattle.cilk_tree.specs.Resumptions.{AreResumptions}
use Rattle.cilk_tree.specs.declared.event_order.EventOrder.{EventOrder}
use Rattle.cilk_tree.specs.Values.{HasValues}
use Rattle.cilk_shared.specs.Values.{SpawnsResume}
use Rattle.cilk_plan.proofs.yards.yard_of.Goals as goal

pub with_resumptions-requires : goal.with_resumptions-requires
with_resumptions-requires g c =
    let told = c.requires.0 in (
      subst (λ (s : EventOrder). IsAlong c.args.plan.now s) (sym told) c.requires.1.0,
      (
        subst HasValues (sym told) c.requires.1.1.0,
        (
          subst SpawnsResume (sym told) c.requires.1.1.1.0,
          subst (λ (column : List ℕ). AreResumptions c.args.plan.now column) (sym (c.in_ok-column.ensures.items_if_clones_equal (λ _ _ q. q))) c.requires.1.1.1.1,
        ),
      ),
    )
