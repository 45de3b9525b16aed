-- Where a strand begins.
use Rattle.std.proofs.Common.{◌≡◌, ℕ, ◌+◌, ◌≤◌, sym, subst}
use Rattle.cilk_shared.specs.Values.{SegmentValue}
use Rattle.cilk_tree.specs.declared.event_order.EventOrder.{EventOrder}
use Rattle.cilk_tree.specs.PlanStrands.{BeginsStrand}
use Rattle.cilk_workers.specs.Gates.{EndsWithFirst}

pub begins : (s : EventOrder) (g : SegmentValue) (p n : ℕ) → g.event_order ≡ s → BeginsStrand s.events n p → p + 1 ≡ g.upto → g.from ≤ p → EndsWithFirst g n
begins s g p n same first at inside = (p, at, inside, subst (λ (t : EventOrder). BeginsStrand t.events n p) (sym same) first)
